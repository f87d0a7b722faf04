-- `gate::metal_holds` meets its contract. Assumes nothing.
use mathlib.Core.Path.{◌≡◌, refl, sym, ap, ◌∙◌}
use mathlib.Core.Bool.{Bool, true, false, not, ◌&&◌}
use mathlib.Core.List.{List, [], ◌∷◌}
use Prim.Native.Nat.{ℕ, zero, suc}
use lib.ListN.{length}
use lib.Ieee.{Float, le}
use borrow.Author.Tests.{not-true, not-false}
use Rattle.ieee.specs.Operators.{◌⊕◌}
use Rattle.ieee.specs.Functions.{zero_f}
use Rattle.gate_limits.specs.declared.Surface.{Surface}
use Rattle.gate_limits.specs.Limits.{sixteen, metal_within, metals_within, absorption, absorptions, may_be_metal, metal_passes}
use Rattle.sheet.specs.Sheet.{SheetLayer}
use Rattle.sheet.specs.Internal.{next_place, surface_at, layers_at}
use Rattle.sheet_values.specs.Values.{film, films, surface_value}
use Rattle.gate.specs.Gate.{coefficients_finite, all_finite}
use Rattle.gate.specs.Internal.{metal_at, metal_layer, metal_layers}
use Rattle.gate.proofs.Wavelengths.{films_length}
use Rattle.gate.proofs.metal_holds.Goals as goal

-- ---- the layers one after the other: each test of all of them, then the sum
apart : (c m C M L : Bool) → ((c && m) && (C && (M && L))) ≡ ((c && C) && ((m && M) && L))
apart false m C M L = refl
apart true false true M L = refl
apart true false false M L = refl
apart true true C M L = refl

gathers : (w sum : Float) (ls : List SheetLayer) → metal_layers w sum ls ≡ (all_finite ls && (metals_within (films w ls) && le (absorptions w sum (films w ls)) sixteen))
unfolding metal_layers all_finite films metals_within absorptions
gathers w sum [] = refl
gathers w sum (l ∷ ls) =
    let s = sum ⊕ absorption w (film w l) in
    ap (λ (t : Bool). metal_layer w l && t) (gathers w s ls) ∙ apart (coefficients_finite l) (metal_within (film w l)) (all_finite ls) (metals_within (films w ls)) (le (absorptions w s (films w ls)) sixteen)

many : (src : List ℕ) (at n : ℕ) → length (layers_at src at n) ≡ n
unfolding layers_at
many src at zero = refl
many src at (suc n) = ap suc (many src (next_place src at) n)

swap : (a b t : Bool) → (a && (b && t)) ≡ (b && (a && t))
swap true b t = refl
swap false true t = refl
swap false false t = refl

is : (src : List ℕ) (at n : ℕ) (w : Float) → metal_at src at n w ≡ (may_be_metal (surface_value (surface_at src at [])) n && metal_layers w zero_f (layers_at src (next_place src at) n))
unfolding metal_at metal_passes
is src at n w =
    let ls = layers_at src (next_place src at) n in
    let L = metals_within (films w ls) && le (absorptions w zero_f (films w ls)) sixteen in
    swap (all_finite ls) (may_be_metal (surface_value (surface_at src at [])) (length (films w ls))) L
    ∙ (λ i. may_be_metal (surface_value (surface_at src at [])) ((films_length w ls ∙ many src (next_place src at) n) i) && sym (gathers w zero_f ls) i)

module _ (src : List ℕ) (at : ℕ) (w : Float) (n : ℕ) (s : Surface) (s_is : s ≡ surface_value (surface_at src at [])) (t : Bool) (t_is : t ≡ may_be_metal s n) where
  first : metal_at src at n w ≡ (t && metal_layers w zero_f (layers_at src (next_place src at) n))
  first = is src at n w ∙ sym (ap (λ (b : Bool). b && metal_layers w zero_f (layers_at src (next_place src at) n)) (t_is ∙ ap (λ (z : Surface). may_be_metal z n) s_is))

  stops : not t ≡ true → false ≡ metal_at src at n w
  stops e = sym (first ∙ ap (λ (b : Bool). b && metal_layers w zero_f (layers_at src (next_place src at) n)) (not-true t e))

  goes : not t ≡ false → (q : ℕ) → q ≡ next_place src at → (r : Bool) → r ≡ metal_layers w zero_f (layers_at src q n) → r ≡ metal_at src at n w
  goes e q q-is r r_is =
      r_is ∙ ap (λ (k : ℕ). metal_layers w zero_f (layers_at src k n)) q-is
      ∙ sym (first ∙ ap (λ (b : Bool). b && metal_layers w zero_f (layers_at src (next_place src at) n)) (not-false t e))

pub returns-then-not-may_be_metal : goal.returns-then-not-may_be_metal
returns-then-not-may_be_metal c = stops _ _ _ _ _ c.surface_at.ensures _ c.may_be_metal.ensures (ap not c.if-not-may_be_metal.true)

pub returns : goal.returns
returns c = goes _ _ _ _ _ c.surface_at.ensures _ c.may_be_metal.ensures (ap not c.if-not-may_be_metal.false) _ c.next_place.ensures _ c.metal_layers.ensures
