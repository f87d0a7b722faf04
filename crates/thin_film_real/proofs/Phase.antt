-- The phase of a film whose phase thickness is real: cos(delta) is real, and i sin(delta) imaginary. Assumes nothing.
use mathlib.Core.Path.{◌≡◌, sym, ap, ◌∙◌, subst}
use mathlib.Core.Logic.{inl, inr}
use lib.Dec.{T}
use lib.Ieee.{Float, nan, inf, fin, binary64, neg, lt, fits, of_bits}
use lib.Ieee.Scale.{finite}
use lib.Ieee.Fits.{cond-fits, neg-fits, sub-fits, mul-fits}
use Rattle.ieee.specs.Operators.{◌⊕◌, ◌⊖◌, ◌⊗◌}
use Rattle.ieee.specs.Functions.{zero_f, one, minus_one, half, abs, clamp}
use Rattle.ieee.specs.Range.{Mag}
use Rattle.ieee.proofs.Range.Laws.{sub_is, neg_mag}
use Rattle.ieee.proofs.Range.Sums.{sub_mag}
use Rattle.ieee.proofs.Range.Zero.{sub_self_mag}
use Rattle.ieee.proofs.Range.Constants.{zero_mag}
use Rattle.math_trig.specs.Angles.{pi, half_pi}
use Rattle.math_trig.specs.Trig.{fold, series, sin_at, sin, cos_at, cos_of, cos}
use Rattle.math_trig.proofs.Opposites.{neg_neg, mul_neg, sub_opposite}
use Rattle.math_trig.proofs.TrigBounds.{sin_mag, cos_mag}
use Rattle.math_trig.proofs.Parity.{sin_odd, cos_even}
use Rattle.math_exp.specs.Exp as Exp
use Rattle.math_exp.proofs.ExpBounds.{exp_zero}
use Rattle.thin_film_complex.specs.declared.Complex.{Complex}
use Rattle.thin_film_complex.specs.Complex.{real, scale, exp, add, sub, mul}
use Rattle.thin_film_matrix.specs.Film.{exp_pos, exp_neg, cos_delta, sin_delta, i_sin_delta}
use Rattle.polarization_value.proofs.Keeps.{Zero, zero_sum, zero_difference, Keeps, kept, zeros}
use Rattle.polarization_value.proofs.Commute.{product_comm}
use Rattle.thin_film_real.proofs.Keeps.{Fine, zero_times, times_zero, zero_less}
use Rattle.thin_film_real.proofs.Exact.{one_times, half_twice}
use Rattle.thin_film_real.proofs.Parts.{Re, Im}

-- ---- both exponentials, where the imaginary part is a zero
abbrev pos : Float → Complex
pos d = record { re = one ⊗ cos d; im = one ⊗ sin d }

abbrev min : Float → Complex
min d = record { re = one ⊗ cos (neg d); im = one ⊗ sin (neg d) }

module _ (δ : Complex) (im : Zero δ.im) where
  pos_is : exp_pos δ ≡ pos δ.re
  unfolding exp_pos exp
  pos_is = simp (exp_zero (neg δ.im) (neg_mag im))

  min_is : exp_neg δ ≡ min δ.re
  unfolding exp_neg exp
  min_is = simp (exp_zero δ.im im)

  cos_is : cos_delta δ ≡ scale (add (pos δ.re) (min δ.re)) half
  unfolding cos_delta
  cos_is = simp (pos_is, min_is)

  sin_is : sin_delta δ ≡ mul (sub (pos δ.re) (min δ.re)) (record { re = zero_f; im = neg half })
  unfolding sin_delta
  sin_is = simp (pos_is, min_is)

real_zero : (d : Float) → Zero (real d).im
unfolding real
real_zero d = zero_mag

one_fine : Fine one
unfolding of_bits
one_fine = record { fine = tt }

half_fine : Fine half
unfolding of_bits
half_fine = record { fine = tt }

minus_half_fine : Fine (neg half)
unfolding of_bits neg
minus_half_fine = record { fine = tt }

-- ---- an f64 holds sin and cos
clamp_fits : (x lo hi : Float) → T (fits binary64 x) → T (fits binary64 lo) → T (fits binary64 hi) → T (fits binary64 (clamp x lo hi))
unfolding clamp
clamp_fits x lo hi f g h = cond-fits binary64 (lt x lo) lo _ g (cond-fits binary64 (lt hi x) hi x h f)

minus_one_fits : T (fits binary64 minus_one)
unfolding fits of_bits
minus_one_fits = tt

one_fits : T (fits binary64 one)
unfolding fits of_bits
one_fits = tt

sin_fits : (d : Float) → T (fits binary64 (sin d))
unfolding sin sin_at
sin_fits d = clamp_fits _ minus_one one (mul-fits binary64 _ _) minus_one_fits one_fits

cos_at_fits : (a : Float) → T (fits binary64 (cos_at a))
unfolding cos_at series
cos_at_fits a = clamp_fits _ minus_one one (sub-fits binary64 one _) minus_one_fits one_fits

cos_fits : (d : Float) → T (fits binary64 (cos d))
unfolding cos cos_of
cos_fits d =
    let a = abs (fold d) in
    cond-fits binary64 (lt half_pi a) (neg (cos_at (pi ⊖ a))) (cos_at a) (neg-fits binary64 (cos_at (pi ⊖ a)) (cos_at_fits (pi ⊖ a))) (cos_at_fits a)

neg_fine : {x : Float} → Fine x → Fine (neg x)
neg_fine {x} f = record { fine = go x f.fine }
  where
    go : (x : Float) → T (finite x) → T (finite (neg x))
    go nan h = absurd h
    go (inf s) h = absurd h
    go (fin s m e) h = unfold neg in tt

-- ---- 1 times each is itself
one_sin : (d : Float) → Fine d → one ⊗ sin d ≡ sin d
one_sin d f = one_times (sin d) (sin_mag d f.fine).fine (sin_fits d)

one_cos : (d : Float) → Fine d → one ⊗ cos d ≡ cos d
one_cos d f = one_times (cos d) (cos_mag d f.fine).fine (cos_fits d)

-- ---- the sum of both imaginary parts, and the difference of both real ones
module _ (d : Float) where
  turned : (s : Float) → one ⊗ neg s ≡ neg (one ⊗ s)
  turned s = product_comm one (neg s) ∙ mul_neg s one ∙ ap neg (product_comm s one)

  own : (x : Float) → Fine x → Zero (x ⊕ neg x)
  own x f = subst (λ (z : Float). Zero z) (sub_is x x) (sub_self_mag x f.fine)

  sum_zero : Fine (one ⊗ sin d) → Zero (one ⊗ sin d ⊕ one ⊗ sin (neg d))
  sum_zero f = elim (sin_odd d) [
    | inl e ↦ rw (e, turned (sin d)) (own (one ⊗ sin d) f)
    | inr e ↦ rw (e.0, e.1) (zero_sum (times_zero one_fine zero_mag) (times_zero one_fine zero_mag))
  ]

  difference_zero : Fine (one ⊗ cos d) → Zero (one ⊗ cos d ⊖ one ⊗ cos (neg d))
  difference_zero f = rw cos_even (sub_self_mag (one ⊗ cos d) f.fine)

-- ---- cos(delta) is real, and i sin(delta) imaginary, where their parts are finite
module _ (d : Float) (δ : Complex) (re : δ.re ≡ d) (im : Zero δ.im) where
  same_cos : cos_delta δ ≡ cos_delta (real d)
  unfolding real
  same_cos = cos_is δ im ∙ ap (λ (x : Float). scale (add (pos x) (min x)) half) re ∙ sym (cos_is (real d) (real_zero d))

  same_sin : sin_delta δ ≡ sin_delta (real d)
  unfolding real
  same_sin = sin_is δ im ∙ ap (λ (x : Float). mul (sub (pos x) (min x)) (record { re = zero_f; im = neg half })) re ∙ sym (sin_is (real d) (real_zero d))

  same_i_sin : i_sin_delta δ ≡ i_sin_delta (real d)
  unfolding i_sin_delta
  same_i_sin = ap (λ (z : Complex). record { re = neg z.im; im = z.re }) same_sin

  module _ (f : Fine d) where
    cos_in : Mag 1 0 (cos d)
    cos_in = cos_mag d f.fine

    sin_in : Mag 1 0 (sin d)
    sin_in = sin_mag d f.fine

    cos_fine : Fine (one ⊗ cos d)
    cos_fine = rw (one_cos d f) (record { fine = cos_in.fine })

    sin_fine : Fine (one ⊗ sin d)
    sin_fine = rw (one_sin d f) (record { fine = sin_in.fine })

    cos_part : (cos_delta (real d)).re ≡ cos d
    unfolding scale add real
    cos_part =
        ap (λ (z : Complex). z.re) (cos_is (real d) (real_zero d))
        ∙ ap (λ (x : Float). (one ⊗ cos d ⊕ one ⊗ x) ⊗ half) (cos_even d)
        ∙ ap (λ (x : Float). (x ⊕ x) ⊗ half) (one_cos d f) ∙ half_twice (cos d) cos_in (cos_fits d)

    -- twice the sine, and its half with the sign turned
    twice_sin : sin (neg d) ≡ neg (sin d) → (one ⊗ sin d ⊖ one ⊗ sin (neg d)) ⊗ neg half ≡ neg (sin d)
    twice_sin e =
        ap (λ (x : Float). (one ⊗ sin d ⊖ one ⊗ x) ⊗ neg half) e
        ∙ ap (λ (x : Float). (one ⊗ sin d ⊖ x) ⊗ neg half) (turned d (sin d))
        ∙ ap (λ (x : Float). (x ⊖ neg x) ⊗ neg half) (one_sin d f)
        ∙ ap (λ (x : Float). x ⊗ neg half) (sub_opposite (sin d) (sin d))
        ∙ product_comm (sin d ⊕ sin d) (neg half) ∙ mul_neg half (sin d ⊕ sin d) ∙ ap neg (product_comm half (sin d ⊕ sin d) ∙ half_twice (sin d) sin_in (sin_fits d))

    both_fine : Fine (one ⊗ sin d ⊖ one ⊗ sin (neg d))
    both_fine =
        let e = one_sin (neg d) (neg_fine f) in
        let m : Mag 2 0 (sin d ⊖ sin (neg d)) = sub_mag sin_in (sin_mag (neg d) (neg_fine f).fine) tt in
        rw (one_sin d f, e) (record { fine = m.fine })

    nothing : Zero ((one ⊗ cos d ⊖ one ⊗ cos (neg d)) ⊗ zero_f)
    nothing = zero_times (difference_zero d cos_fine) (record { fine = zero_mag.fine })

    sin_part : Keeps (sin d) (sin_delta (real d)).re
    unfolding mul sub real
    sin_part = subst (λ (z : Complex). Keeps (sin d) z.re) (sym (sin_is (real d) (real_zero d))) (elim (sin_odd d) [
      | inl e ↦ rw (twice_sin e) (subst (λ (x : Float). Keeps x ((one ⊗ cos d ⊖ one ⊗ cos (neg d)) ⊗ zero_f ⊖ neg (sin d))) (neg_neg (sin d)) (zero_less nothing kept (neg-fits binary64 (sin d) (sin_fits d))))
      | inr e ↦ zeros (subst (λ (x : Float). Zero x) (sym e.0) zero_mag) (zero_difference nothing (zero_times (rw (e.0, e.1) (zero_difference (times_zero one_fine zero_mag) (times_zero one_fine zero_mag))) minus_half_fine))
    ])

    cos_im : Zero (cos_delta (real d)).im
    unfolding scale add real
    cos_im = subst (λ (z : Complex). Zero z.im) (sym (cos_is (real d) (real_zero d))) (zero_times (sum_zero d sin_fine) half_fine)

    sin_re : Zero (i_sin_delta (real d)).re
    unfolding i_sin_delta mul sub real
    sin_re = neg_mag (subst (λ (z : Complex). Zero z.im) (sym (sin_is (real d) (real_zero d))) (zero_sum (zero_times (difference_zero d cos_fine) minus_half_fine) (times_zero both_fine zero_mag)))

    pub cos_real : Re (cos d) (cos_delta δ)
    cos_real = subst (Re (cos d)) (sym same_cos) (record { re = rw cos_part kept; im = cos_im })

    pub i_sin_imaginary : Im (sin d) (i_sin_delta δ)
    unfolding i_sin_delta
    i_sin_imaginary = subst (Im (sin d)) (sym same_i_sin) (record { re = sin_re; im = sin_part })
