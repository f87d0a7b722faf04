-- `gate::layers_fit` meets its contract. The loop's invariant: the layers that are left fit as all of them do. Assumes nothing.
use mathlib.Core.Path.{◌≡◌, refl, sym, ap, ◌∙◌}
use mathlib.Core.Bool.{Bool, true, false, not, cond}
use mathlib.Core.List.{List}
use Prim.Native.Nat.{ℕ, suc, ◌+◌, ◌-◌, ◌≤◌, ◌<◌}
use native.Mathlib.Omega.{arith}
use lib.Ieee.{Float}
use borrow.Author.Tests.{not-true, not-false}
use Rattle.sheet.specs.Internal.{next_place, layer_at, layers_at}
use Rattle.gate.specs.Gate.{layer_admitted}
use Rattle.gate.specs.declared.Fit.{Fit}
use Rattle.gate.specs.Internal.{fits}
use Rattle.gate.proofs.layers_fit.Goals as goal

module _ (src : List ℕ) (place n i : ℕ) (w b : Float) (o : Fit) (inv : fits w b src place (layers_at src place (n - i)) ≡ o) where
  module _ (lt : i < n) (t : Bool) (is : t ≡ layer_admitted w b (layer_at src place)) where
    first : fits w b src place (layers_at src place (n - i)) ≡ cond t (fits w b src (next_place src place) (layers_at src (next_place src place) (n - (i + 1)))) (record { all = false; place = place })
    unfolding layers_at fits
    first = rw (fewer, ← is) refl
      where
        fewer : n - i ≡ suc (n - (i + 1))
        fewer = omega arith

    stops : not t ≡ true → record { all = false; place = place } ≡ o
    stops e = sym (first ∙ ap (λ (z : Bool). cond z (fits w b src (next_place src place) (layers_at src (next_place src place) (n - (i + 1)))) (record { all = false; place = place })) (not-true t e)) ∙ inv

    goes_on : not t ≡ false → (q : ℕ) → q ≡ next_place src place → fits w b src q (layers_at src q (n - (i + 1))) ≡ o
    goes_on e q q-is = rw q-is (sym (first ∙ ap (λ (z : Bool). cond z (fits w b src (next_place src place) (layers_at src (next_place src place) (n - (i + 1)))) (record { all = false; place = place })) (not-false t e)) ∙ inv)

  all_fit : n ≤ i → record { all = true; place = place } ≡ o
  unfolding layers_at fits
  all_fit le = ap (λ (k : ℕ). fits w b src place (layers_at src place k)) (sym gone) ∙ inv
    where
      gone : n - i ≡ 0
      gone = omega arith

pub returns-then-not-layer_passes : goal.returns-then-not-layer_passes
returns-then-not-layer_passes c = stops _ _ _ _ _ _ _ c.loop.invariant c.loop-test.true _ c.layer_passes.ensures (ap not c.if-not-layer_passes.true)

pub loop-preserved : goal.loop-preserved
loop-preserved c = goes_on _ _ _ _ _ _ _ c.loop.invariant c.loop-test.true _ c.layer_passes.ensures (ap not c.if-not-layer_passes.false) _ c.next_place-place.ensures

pub returns : goal.returns
returns c = all_fit _ _ _ _ _ _ _ c.loop.invariant c.loop-test.false
