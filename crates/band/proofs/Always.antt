-- Layers that pass at every wavelength, from those that are left to all. Assumes nothing.
use mathlib.Core.Path.{◌≡◌, refl, sym, ap, ◌∙◌, subst}
use mathlib.Core.Bool.{Bool, true, false, not, ◌&&◌, ◌||◌, cond}
use mathlib.Core.List.{List, []}
use Prim.Native.Nat.{ℕ, suc, ◌+◌, ◌-◌, ◌≤◌, ◌<◌}
use native.Mathlib.Omega.{arith}
use borrow.Author.Tests.{ne_eqb, not-false}
use lib.Dec.{T, eqb}
use lib.Ieee.{Float}
use Rattle.ieee.proofs.Signs.{of_true}
use Rattle.sheet.specs.Words.{word, kind, float}
use Rattle.sheet.specs.Sheet.{layer, cauchy}
use Rattle.sheet.specs.Internal.{next_place, place_on, layer_run, layer_at, surface_at, layers_at}
use Rattle.sheet_values.specs.Values.{surface_value}
use Rattle.sheet_values.specs.Internal.{plain_at}
use Rattle.gate_limits.specs.declared.Surface.{Surface}
use Rattle.gate_limits.specs.declared.Judgement.{Judgement}
use Rattle.gate_limits.specs.Limits.{layer_within, judgement}
use Rattle.gate.specs.Gate.{layer_admitted}
use Rattle.gate.specs.Wavelength.{layers_admitted}
use Rattle.gate.specs.Internal.{metal_at, surface_holds_at, layers_hold_at}

one_less : (n i : ℕ) → i < n → suc (n - (i + 1)) ≡ n - i
one_less n i h = omega arith

none : (n i : ℕ) → n ≤ i → 0 ≡ n - i
none n i h = omega arith

-- ---- the layers of a SURFACE
admitted : (src : List ℕ) (place : ℕ) (b w : Float) → eqb (kind (word src place)) 6 ≡ false → layer_within b (plain_at src place) ≡ true → layer_admitted w b (layer_at src place) ≡ true
admitted src place b w e f = go (eqb (kind (word src place)) 6) e
  where
    go : (t : Bool) → t ≡ false
        → layer_admitted w b (cond t (cauchy (float src (place + 1)) (float src (place + 3)) (float src (place + 5)) (float src (place + 7))) (layer (float src (place + 1)) (float src (place + 3)) (float src (place + 5)))) ≡ true
    go false e = f
    go true e = absurd (subst (λ (t : Bool). cond t (Unit {0}) ⊥) e tt)

abbrev pub Layers : List ℕ → ℕ → ℕ → Float → ℕ → ℕ → Type 0
Layers src from n b place i = (w : Float) → layers_admitted w b (layers_at src place (n - i)) ≡ true → layers_admitted w b (layers_at src from n) ≡ true

module _ (src : List ℕ) (from n : ℕ) (b : Float) (place i : ℕ) (rest : Layers src from n b place i) where
  pub layer_more : i < n → (k : ℕ) → k ≡ kind (word src place) → (k ≡ 6 → ⊥) → (t : Bool) → t ≡ layer_within b (plain_at src place) → not t ≡ false → (next : ℕ) → next ≡ next_place src place → Layers src from n b next (i + 1)
  layer_more h k k_is other t t_is t_true next next_is w e =
      rest w (subst (λ (m : ℕ). layers_admitted w b (layers_at src place m) ≡ true) (one_less n i h) (here (subst (λ (q : ℕ). layers_admitted w b (layers_at src q (n - (i + 1))) ≡ true) next_is e)))
    where
      here : layers_admitted w b (layers_at src (next_place src place) (n - (i + 1))) ≡ true → layers_admitted w b (layers_at src place (suc (n - (i + 1)))) ≡ true
      here f = unfold layers_at layers_admitted in
          (λ k. admitted src place b w (ne_eqb (kind (word src place)) 6 (λ g. other (k_is ∙ g))) (sym t_is ∙ not-false t t_true) k && f k)

  pub layers_done : n ≤ i → (w : Float) → layers_admitted w b (layers_at src from n) ≡ true
  layers_done h w = rest w (subst (λ (m : ℕ). layers_admitted w b (layers_at src place m) ≡ true) (none n i h) (unfold layers_at layers_admitted in refl))

-- ---- a SURFACE
pub surface_is : (src : List ℕ) (at : ℕ) (s : Surface) → s ≡ surface_value (surface_at src at []) → (j : Judgement) → j ≡ judgement s → (n : ℕ) → n ≡ layer_run 16 src at → (q : ℕ) → q ≡ next_place src at
    → ((w : Float) → layers_admitted w j.snell (layers_at src q n) ≡ true) → (w : Float) → surface_holds_at src at w ≡ true
unfolding surface_holds_at metal_at
surface_is src at s es j ej n en q eq pass w =
    ap (λ (t : Bool). t || metal_at src at (layer_run 16 src at) w)
    (sym ((λ i. layers_admitted w (ej i).snell (layers_at src (eq i) (en i))) ∙ ap (λ (z : Surface). layers_admitted w (judgement z).snell (layers_at src (next_place src at) (layer_run 16 src at))) es) ∙ pass w)

-- ---- SURFACEs one after the other
abbrev pub Surfaces : List ℕ → ℕ → ℕ → ℕ → ℕ → Type 0
Surfaces src from n place i = (w : Float) → layers_hold_at (n - i) src place w ≡ true → layers_hold_at n src from w ≡ true

module _ (src : List ℕ) (from n place i : ℕ) (rest : Surfaces src from n place i) where
  pub surface_more : i < n → (t : Bool) → (T t → (w : Float) → surface_holds_at src place w ≡ true) → not t ≡ false → (next : ℕ) → next ≡ place_on src place (suc (layer_run 16 src place)) → Surfaces src from n next (i + 1)
  surface_more h t pass t_true next next_is w e =
      rest w (subst (λ (m : ℕ). layers_hold_at m src place w ≡ true) (one_less n i h) (here (pass (of_true t (not-false t t_true)) w) (subst (λ (q : ℕ). layers_hold_at (n - (i + 1)) src q w ≡ true) next_is e)))
    where
      either : (b : Bool) → cond b true true ≡ true
      either true = refl
      either false = refl

      here : surface_holds_at src place w ≡ true → layers_hold_at (n - (i + 1)) src (place_on src place (suc (layer_run 16 src place))) w ≡ true → layers_hold_at (suc (n - (i + 1))) src place w ≡ true
      here f g = unfold layers_hold_at in ((λ k. cond (eqb (kind (word src place)) 7) true (f k && g k)) ∙ either (eqb (kind (word src place)) 7))

  pub surfaces_done : n ≤ i → (w : Float) → layers_hold_at n src from w ≡ true
  surfaces_done h w = rest w (subst (λ (m : ℕ). layers_hold_at m src place w ≡ true) (none n i h) (unfold layers_hold_at in refl))
