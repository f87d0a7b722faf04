-- e^(i delta) and e^(-i delta) from one sine and one cosine. sin(-x) is -sin x, or both are +0 (an x that folds onto π or -π);
-- in either case the sum and the difference of the two exponentials have the bits that they have with sin(-x). Assumes nothing.
use mathlib.Core.Path.{◌≡◌, refl, sym, ap, ◌∙◌}
use mathlib.Core.Logic.{◌⊎◌, inl, inr}
use mathlib.Core.Bool.{Bool, true, false, cond, true≢false}
use Prim.Native.Nat.{ℕ, zero, suc, ◌*◌, ◌<◌}
use native.Mathlib.Nat.{mul-zero, mul-one}
use lib.Dec.{T}
use lib.IntN.{pos}
use lib.Ieee.{Float, nan, inf, fin, binary64, unlike, up, down, round, neg, add, sub, mul, lt, is_nan}
use lib.Ieee.Fits.{down_pos}
use Rattle.ieee.specs.Operators.{◌⊕◌, ◌⊖◌, ◌⊗◌, ◌⊘◌}
use Rattle.ieee.specs.Functions.{zero_f, one}
use Rattle.ieee.specs.Range.{sgn, clear}
use Rattle.ieee.proofs.Signs.{zero_is}
use Rattle.ieee.proofs.Range.Round.{round_clear}
use Rattle.math_trig.specs.Opposite.{Opposite}
use Rattle.math_trig.proofs.Opposites.{round_zero}
use Rattle.math_exp.specs.Exp.{exp, exp_at, exp_series, squares, two_to_10, exp_most, exp_least}

-- ---- the sign of an exponential is clear, or it is a NaN
clear_sgn : (x : Float) → T (clear x) → sgn x ≡ false
clear_sgn nan t = refl
clear_sgn (inf true) t = absurd t
clear_sgn (inf false) t = refl
clear_sgn (fin true m e) t = absurd t
clear_sgn (fin false m e) t = refl

alike : (s : Bool) → unlike s s ≡ false
alike true = refl
alike false = refl

square_sgn : (x : Float) → sgn (x ⊗ x) ≡ false
unfolding mul
square_sgn nan = refl
square_sgn (inf s) = alike s
square_sgn (fin s m e) =
    ap (λ (t : Bool). sgn (round binary64 t (m * up e * (m * up e)) (down e * down e))) (alike s)
    ∙ clear_sgn (round binary64 false (m * up e * (m * up e)) (down e * down e)) (round_clear binary64 (m * up e * (m * up e)) (down e * down e))

squares_sgn : (n : ℕ) (p : Float) → sgn (squares (suc n) p) ≡ false
unfolding squares
squares_sgn zero p = square_sgn p
squares_sgn (suc n) p = squares_sgn n (p ⊗ p)

pick_sgn : (b : Bool) (x y : Float) → sgn x ≡ false → sgn y ≡ false → sgn (cond b x y) ≡ false
pick_sgn true x y h k = h
pick_sgn false x y h k = k

pub exp_sgn : (x : Float) → sgn (exp x) ≡ false
unfolding exp exp_at
exp_sgn x =
    pick_sgn (is_nan x) nan _ refl
    (pick_sgn (lt exp_most x) (inf false) _ refl
    (pick_sgn (lt x exp_least) zero_f _ (ap sgn zero_is) (squares_sgn 9 (exp_series 14 (x ⊘ two_to_10) one))))

-- ---- a product with a zero
-- x · (+0) and x · (-0), of an x whose sign is clear: both NaN, or both zeros
abbrev Zeros : Float → Float → Type 0
Zeros p n = ((p ≡ nan) × (n ≡ nan)) ⊎ ((p ≡ fin false 0 (pos 0)) × (n ≡ fin true 0 (pos 0)))

none : (s : Bool) (a c : ℕ) → 0 < c → round binary64 s (a * (0 * 1)) (c * 1) ≡ fin s 0 (pos 0)
none s a c C = ap (λ (n : ℕ). round binary64 s n (c * 1)) (mul-zero a) ∙ ap (round binary64 s 0) (mul-one c) ∙ round_zero s c C

times_zero : (x : Float) → sgn x ≡ false → Zeros (x ⊗ fin false 0 (pos 0)) (x ⊗ fin true 0 (pos 0))
unfolding mul
times_zero nan h = inl (refl, refl)
times_zero (inf s) h = inl (refl, refl)
times_zero (fin true m e) h = absurd (true≢false h)
times_zero (fin false m e) h = inr (none false (m * up e) (down e) (down_pos e), none true (m * up e) (down e) (down_pos e))

-- ---- the sum and the difference of two such products do not see the second zero's sign
module _ (a p n : Float) (A : (a ≡ nan) ⊎ (a ≡ fin false 0 (pos 0))) (B : Zeros p n) where
  sum_same : a ⊕ p ≡ a ⊕ n
  unfolding add
  sum_same = elim A [
    | inl e ↦ ap (λ (z : Float). z ⊕ p) e ∙ sym (ap (λ (z : Float). z ⊕ n) e)
    | inr e ↦ elim B [ inl b ↦ ap (◌⊕◌ a) (b.0 ∙ sym b.1) | inr b ↦ cc ]
  ]

  difference_same : a ⊖ p ≡ a ⊖ n
  unfolding sub add neg
  difference_same = elim A [
    | inl e ↦ ap (λ (z : Float). z ⊖ p) e ∙ sym (ap (λ (z : Float). z ⊖ n) e)
    | inr e ↦ elim B [ inl b ↦ ap (◌⊖◌ a) (b.0 ∙ sym b.1) | inr b ↦ cc ]
  ]

first : {p n : Float} → Zeros p n → (p ≡ nan) ⊎ (p ≡ fin false 0 (pos 0))
first (inl b) = inl b.0
first (inr b) = inr b.0

-- ---- with -sin x for sin(-x), under factors whose signs are clear
module _ (g h s t : Float) (G : sgn g ≡ false) (H : sgn h ≡ false) (o : Opposite s t) where
  at_zero : (f : Float → Float → Float) → ((a p n : Float) → (a ≡ nan) ⊎ (a ≡ fin false 0 (pos 0)) → Zeros p n → f a p ≡ f a n) → s ≡ zero_f → t ≡ zero_f → f (g ⊗ s) (h ⊗ neg s) ≡ f (g ⊗ s) (h ⊗ t)
  unfolding neg
  at_zero f same p q =
      let u : s ≡ fin false 0 (pos 0) = p ∙ zero_is in
      let v : t ≡ fin false 0 (pos 0) = q ∙ zero_is in
      ap (λ (z : Float). f (g ⊗ z) (h ⊗ neg z)) u
      ∙ sym (same (g ⊗ fin false 0 (pos 0)) (h ⊗ fin false 0 (pos 0)) (h ⊗ fin true 0 (pos 0)) (first (times_zero g G)) (times_zero h H))
      ∙ ap (λ (z : Float). f (g ⊗ z) (h ⊗ fin false 0 (pos 0))) (sym u)
      ∙ ap (λ (z : Float). f (g ⊗ s) (h ⊗ z)) (sym v)

  pub sum_odd : g ⊗ s ⊕ h ⊗ neg s ≡ g ⊗ s ⊕ h ⊗ t
  sum_odd = elim o [ inl e ↦ ap (λ (z : Float). g ⊗ s ⊕ h ⊗ z) (sym e) | inr z ↦ at_zero ◌⊕◌ sum_same z.0 z.1 ]

  pub difference_odd : g ⊗ s ⊖ h ⊗ neg s ≡ g ⊗ s ⊖ h ⊗ t
  difference_odd = elim o [ inl e ↦ ap (λ (z : Float). g ⊗ s ⊖ h ⊗ z) (sym e) | inr z ↦ at_zero ◌⊖◌ difference_same z.0 z.1 ]
