-- `gate::metal_layers` meets its contract. The loop's invariant: what is left passes with the sum so far exactly where all of them do. Assumes nothing.
use mathlib.Core.Path.{◌≡◌, refl, sym, ap, ◌∙◌}
use mathlib.Core.Bool.{Bool, true, false, not, ◌&&◌}
use mathlib.Core.List.{List}
use Prim.Native.Nat.{ℕ, suc, ◌+◌, ◌-◌, ◌≤◌, ◌<◌}
use native.Mathlib.Omega.{arith}
use lib.Ieee.{Float, le}
use borrow.Author.Tests.{not-true, not-false}
use Rattle.ieee.specs.Operators.{◌⊕◌}
use Rattle.gate_limits.specs.Limits.{sixteen, absorption}
use Rattle.thin_film_solver.specs.declared.ThinFilmLayer.{ThinFilmLayer}
use Rattle.sheet.specs.Internal.{next_place, layer_at, layers_at}
use Rattle.sheet_values.specs.Values.{film}
use Rattle.gate.specs.Internal.{metal_layer, metal_layers}
use Rattle.gate.proofs.metal_layers.Goals as goal

module _ (src : List ℕ) (place n i : ℕ) (w sum : Float) (o : Bool) (inv : metal_layers w sum (layers_at src place (n - i)) ≡ o) where
  module _ (lt : i < n) (t : Bool) (is : t ≡ metal_layer w (layer_at src place)) where
    abbrev rest : Bool
    rest = metal_layers w (sum ⊕ absorption w (film w (layer_at src place))) (layers_at src (next_place src place) (n - (i + 1)))

    first : metal_layers w sum (layers_at src place (n - i)) ≡ t && rest
    unfolding layers_at metal_layers
    first = rw (fewer, ← is) refl
      where
        fewer : n - i ≡ suc (n - (i + 1))
        fewer = omega arith

    stops : not t ≡ true → false ≡ o
    stops e = sym (first ∙ ap (λ (z : Bool). z && rest) (not-true t e)) ∙ inv

    goes_on : not t ≡ false → (l : ThinFilmLayer) → l ≡ film w (layer_at src place) → (a : Float) → a ≡ absorption w l → (q : ℕ) → q ≡ next_place src place → metal_layers w (sum ⊕ a) (layers_at src q (n - (i + 1))) ≡ o
    goes_on e l l-is a a-is q q-is = rw (q-is, a-is, l-is) (sym (first ∙ ap (λ (z : Bool). z && rest) (not-false t e)) ∙ inv)

  all : n ≤ i → le sum sixteen ≡ o
  unfolding layers_at metal_layers
  all l = ap (λ (k : ℕ). metal_layers w sum (layers_at src place k)) (sym gone) ∙ inv
    where
      gone : n - i ≡ 0
      gone = omega arith

pub returns-then-not-metal_layer : goal.returns-then-not-metal_layer
returns-then-not-metal_layer c = stops _ _ _ _ _ _ _ c.loop.invariant c.loop-test.true _ c.metal_layer.ensures (ap not c.if-not-metal_layer.true)

pub loop-preserved : goal.loop-preserved
loop-preserved c =
    goes_on _ _ _ _ _ _ _ c.loop.invariant c.loop-test.true _ c.metal_layer.ensures (ap not c.if-not-metal_layer.false) _ c.layer_at-layer.ensures _ c.absorption-sum.ensures _ c.next_place-place.ensures

pub returns : goal.returns
returns c = all _ _ _ _ _ _ _ c.loop.invariant c.loop-test.false
