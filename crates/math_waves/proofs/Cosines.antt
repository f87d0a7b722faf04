-- cos of a folded angle from sin's second fold of it: the arguments of both series are equal, or opposites. Assumes nothing.
use mathlib.Core.Path.{◌≡◌, refl, sym, ap, ◌∙◌, subst}
use mathlib.Core.Logic.{inl, inr}
use mathlib.Core.Bool.{Bool, true, false, cond}
use lib.Ieee.{Float, nan, inf, fin, neg, lt, of_bits}
use Rattle.ieee.specs.Operators.{◌⊖◌, ◌⊗◌}
use Rattle.ieee.specs.Functions.{one, minus_one, abs, clamp}
use Rattle.math_trig.specs.Angles.{pi, half_pi, minus_half_pi}
use Rattle.math_trig.specs.Opposite.{Opposite}
use Rattle.math_trig.specs.Trig.{second_fold, series, cos_div, cos_at, cos_of}
use Rattle.math_trig.proofs.Constants.{minus_pi_is, minus_half_pi_is}
use Rattle.math_trig.proofs.Opposites.{neg_neg, square_neg, lt_neg, sub_neg}
use Rattle.math_waves.specs.Internal.{turned}

-- the series sees only the square
cos_opposite : {x y : Float} → Opposite x y → cos_at y ≡ cos_at x
unfolding cos_at
cos_opposite {x} {y} (inl e) = ap (λ (z : Float). clamp (series cos_div 11 (z ⊗ z) one) minus_one one) e ∙ ap (λ (z : Float). clamp (series cos_div 11 z one) minus_one one) (square_neg x)
cos_opposite {x} {y} (inr e) = ap (λ (z : Float). clamp (series cos_div 11 (z ⊗ z) one) minus_one one) (e.1 ∙ sym e.0)

-- an angle whose sign is clear is not below -π/2
clear : (r : Float) → abs r ≡ r → lt r minus_half_pi ≡ false → cos_of (abs r) ≡ turned r (cos_at (second_fold r))
unfolding cos_of turned second_fold
clear r a b = rw (a, b) (go (lt half_pi r))
  where
    go : (t : Bool) → cond t (neg (cos_at (pi ⊖ r))) (cos_at r) ≡ cond t (neg (cos_at (cond t (pi ⊖ r) r))) (cos_at (cond t (pi ⊖ r) r))
    go true = refl
    go false = refl

-- one whose sign is set is not above π/2
minus : (r : Float) → abs r ≡ neg r → lt half_pi r ≡ false → cos_of (abs r) ≡ turned r (cos_at (second_fold r))
unfolding cos_of turned second_fold
minus r a b = rw (a, b, minus_half_pi_is, minus_pi_is, above) (go (lt r (neg half_pi)))
  where
    above : lt half_pi (neg r) ≡ lt r (neg half_pi)
    above = ap (λ (z : Float). lt z (neg r)) (sym (neg_neg half_pi)) ∙ lt_neg (neg half_pi) r

    under : Opposite (neg pi ⊖ r) (pi ⊖ neg r)
    under = subst (λ (z : Float). Opposite (neg pi ⊖ r) (z ⊖ neg r)) (neg_neg pi) (sub_neg (neg pi) r)

    go : (t : Bool) → cond t (neg (cos_at (pi ⊖ neg r))) (cos_at (neg r)) ≡ cond t (neg (cos_at (cond t (neg pi ⊖ r) r))) (cos_at (cond t (neg pi ⊖ r) r))
    go true = ap neg (cos_opposite under)
    go false = cos_opposite (inl refl)

pub cos_is : (r : Float) → cos_of (abs r) ≡ turned r (cos_at (second_fold r))
cos_is nan = clear nan (unfold abs in refl) (unfold lt in refl)
cos_is (inf true) = minus (inf true) (unfold abs neg in refl) (unfold lt of_bits in refl)
cos_is (inf false) = clear (inf false) (unfold abs in refl) (unfold lt of_bits in refl)
cos_is (fin true m e) = minus (fin true m e) (unfold abs neg in refl) (unfold lt of_bits in refl)
cos_is (fin false m e) = clear (fin false m e) (unfold abs in refl) (unfold lt of_bits in refl)
