-- cos is even bit for bit. sin of -x is the opposite of sin of x, or both are +0, which happens where x folds onto π or -π. For every x. Assumes nothing.
use mathlib.Core.Path.{◌≡◌, refl, sym, ap, ◌∙◌, subst}
use mathlib.Core.Logic.{inl, inr}
use mathlib.Core.Bool.{Bool, true, false, cond}
use lib.Dec.{T}
use lib.Ieee.{Float, nan, inf, fin, neg, add, sub, mul, div, lt, of_int, of_bits}
use Rattle.ieee.specs.Operators.{◌⊕◌, ◌⊖◌, ◌⊗◌}
use Rattle.ieee.specs.Functions.{zero_f, one, minus_one, clamp}
use Rattle.ieee.specs.Range.{plus}
use Rattle.ieee.proofs.Range.Laws.{sub_is}
use Rattle.math_trig.specs.Angles.{tau, pi, half_pi}
use Rattle.math_trig.specs.Trig.{wrap, fold, second_fold, series, sin_div, sin_at, sin, cos_of, cos}
use Rattle.math_trig.specs.Opposite.{Opposite}
use Rattle.math_trig.proofs.Constants.{minus_one_is, minus_pi_is, minus_half_pi_is}
use Rattle.math_trig.proofs.Turned.{first_line_odd}
use Rattle.math_trig.proofs.Opposites.{neg_neg, mul_neg, square_neg, lt_neg, add_neg, sub_neg, sub_opposite, opposite_abs}

-- ---- two tests that exclude each other, and the same two of the opposite
apart : (c x : Float) → T (plus c) → T (lt c x) → T (lt x (neg c)) → ⊥
unfolding lt neg
apart nan x p t u = absurd p
apart (inf s) x p t u = absurd p
apart (fin true n d) x p t u = absurd p
apart (fin false n d) nan p t u = absurd t
apart (fin false n d) (inf true) p t u = absurd t
apart (fin false n d) (inf false) p t u = absurd u
apart (fin false n d) (fin true m e) p t u = absurd t
apart (fin false n d) (fin false m e) p t u = absurd u

-- -x is below -c where x is above c, and above c where x is below -c
below_is : (c x : Float) → lt (neg x) (neg c) ≡ lt c x
below_is c x = lt_neg x c

above_is : (c x : Float) → lt c (neg x) ≡ lt x (neg c)
above_is c x = ap (λ (z : Float). lt z (neg x)) (sym (neg_neg c)) ∙ lt_neg (neg c) x

-- above c one thing, below -c another, else a third: the opposites in turn are the opposite
swapped : (a b : Bool) {u v w u' v' w' : Float} → (T a → T b → ⊥) → Opposite u u' → Opposite v v' → Opposite w w' → Opposite (cond a u (cond b v w)) (cond b v' (cond a u' w'))
swapped true true h p q r = absurd (h tt tt)
swapped true false h p q r = p
swapped false true h p q r = q
swapped false false h p q r = r

by_sides : (c x : Float) {u v w u' v' w' : Float} → T (plus c) → Opposite u u' → Opposite v v' → Opposite w w' →
    Opposite (cond (lt c x) u (cond (lt x (neg c)) v w)) (cond (lt c (neg x)) v' (cond (lt (neg x) (neg c)) u' w'))
by_sides c x h p q r = rw (above_is c x, below_is c x) (swapped (lt c x) (lt x (neg c)) (apart c x h) p q r)

-- ---- the folds
pi_plus : T (plus pi)
unfolding of_bits
pi_plus = tt

half_pi_plus : T (plus half_pi)
unfolding of_bits
half_pi_plus = tt

one_plus : T (plus one)
unfolding of_bits
one_plus = tt

wrap_odd : (r : Float) → Opposite (wrap r) (wrap (neg r))
unfolding wrap
wrap_odd r = rw minus_pi_is (by_sides pi r pi_plus over under (inl refl))
  where
    over : Opposite (r ⊖ tau) (neg r ⊕ tau)
    over = subst (λ (z : Float). Opposite (r ⊖ tau) z) (sub_opposite (neg r) tau) (sub_neg r tau)

    under : Opposite (r ⊕ tau) (neg r ⊖ tau)
    under = subst (λ (z : Float). Opposite (r ⊕ tau) z) (sym (sub_is (neg r) tau)) (add_neg r tau)

second_fold_odd : (r : Float) → Opposite (second_fold r) (second_fold (neg r))
unfolding second_fold
second_fold_odd r = rw (minus_half_pi_is, minus_pi_is) (by_sides half_pi r half_pi_plus (sub_neg pi r) under (inl refl))
  where
    under : Opposite (neg pi ⊖ r) (pi ⊖ neg r)
    under = subst (λ (z : Float). Opposite (neg pi ⊖ r) (z ⊖ neg r)) (neg_neg pi) (sub_neg (neg pi) r)

-- ---- the series sees only the square of the angle
clamp_odd : (v : Float) → clamp (neg v) minus_one one ≡ neg (clamp v minus_one one)
unfolding clamp
clamp_odd v = rw (minus_one_is, below_is one v, above_is one v) (go (lt one v) (lt v (neg one)) (apart one v one_plus))
  where
    go : (a b : Bool) → (T a → T b → ⊥) → cond a (neg one) (cond b one (neg v)) ≡ neg (cond b (neg one) (cond a one v))
    go true true h = absurd (h tt tt)
    go true false h = refl
    go false true h = sym (neg_neg one)
    go false false h = refl

sin_at_odd : (r : Float) → sin_at (neg r) ≡ neg (sin_at r)
unfolding sin_at
sin_at_odd r =
    ap (λ (z : Float). clamp (neg r ⊗ series sin_div 10 z one) minus_one one) (square_neg r)
    ∙ ap (λ (z : Float). clamp z minus_one one) (mul_neg r (series sin_div 10 (r ⊗ r) one))
    ∙ clamp_odd (r ⊗ series sin_div 10 (r ⊗ r) one)

-- ---- +0 stays +0
second_fold_zero : second_fold zero_f ≡ zero_f
unfolding second_fold lt of_bits
second_fold_zero = refl

sin_at_zero : sin_at zero_f ≡ zero_f
unfolding sin_at series clamp lt add sub neg mul div of_bits of_int
sin_at_zero = refl

-- ---- an opposite's image is the opposite of the image
through : (g : Float → Float) → g zero_f ≡ zero_f → ((r : Float) → Opposite (g r) (g (neg r))) → {x y : Float} → Opposite x y → Opposite (g x) (g y)
through g z h {x} {y} (inl e) = subst (λ (w : Float). Opposite (g x) (g w)) (sym e) (h x)
through g z h {x} {y} (inr e) = inr (ap g e.0 ∙ z, ap g e.1 ∙ z)

wrap_zero : wrap zero_f ≡ zero_f
unfolding wrap lt of_bits
wrap_zero = refl

pub fold_odd : (x : Float) → Opposite (fold x) (fold (neg x))
unfolding fold
fold_odd x = through wrap wrap_zero wrap_odd (first_line_odd x)

pub sin_odd : (x : Float) → Opposite (sin x) (sin (neg x))
unfolding sin
sin_odd x = through sin_at sin_at_zero (λ r. inl (sin_at_odd r)) (through second_fold second_fold_zero second_fold_odd (fold_odd x))

pub cos_even : (x : Float) → cos (neg x) ≡ cos x
unfolding cos
cos_even x = ap cos_of (opposite_abs (fold_odd x))
