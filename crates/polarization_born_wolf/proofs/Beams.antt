-- What a diagonal matrix makes of each of the six beams, up to the signs of zeros. Assumes nothing.
use mathlib.Core.Path.{◌≡◌, sym, ap, ◌∙◌, subst}
use lib.Dec.{T, lit≤}
use lib.Ieee.{Float, binary64, neg, fits, of_bits}
use lib.Ieee.Fits.{neg-fits}
use Rattle.ieee.specs.Operators.{◌⊕◌, ◌⊖◌, ◌⊗◌}
use Rattle.ieee.specs.Functions.{zero_f, one, two}
use Rattle.ieee.specs.Range.{Pow}
use Rattle.ieee.proofs.Range.Laws.{sub_is}
use Rattle.ieee.proofs.Range.Constants.{zero_mag, one_mag}
use Rattle.ieee.proofs.Range.Zero.{zero_mul_mag}
use Rattle.ieee.proofs.Range.Powers.{to_pow, of_pow, neg_pow}
use Rattle.math_trig.proofs.Opposites.{neg_neg, mul_neg}
use Rattle.thin_film_complex.specs.declared.Complex.{Complex}
use Rattle.thin_film_complex.specs.Complex as C
use Rattle.thin_film_matrix.specs.Matrix.{dot}
use Rattle.polarization_stokes.specs.declared.StokesVector.{StokesVector}
use Rattle.polarization_stokes.specs.Jones.{to_stokes}
use Rattle.polarization_mueller.specs.Jones.{apply, diattenuator}
use Rattle.polarization_value.specs.Value.{Finite}
use Rattle.polarization_value.proofs.Commute.{product_comm, sum_comm_f, complex_sum_comm}
use Rattle.polarization_value.proofs.Keeps.{Zero, zero_sum, zero_difference, one_times, Keeps, zeros, keeps_sum, keeps_difference, keeps_more}
use Rattle.polarization_born_wolf.specs.Conversion.{complex, transformed}
use Rattle.polarization_born_wolf.specs.Claim.{Moderate}
use Rattle.polarization_born_wolf.proofs.Near.{Near, itself, near_add, near_sub, near_mul}

-- ---- the constants
pub zero_held : T (fits binary64 zero_f)
unfolding of_bits fits
zero_held = tt

pub two_held : T (fits binary64 two)
unfolding of_bits fits
two_held = tt

pub two_pow : Pow 1 two
unfolding of_bits
two_pow = record { fine = tt; most = lit≤ tt }

-- ---- a part times 0, 1 and -1
times_zero : {x : Float} → Pow 500 x → Zero (x ⊗ zero_f)
times_zero {x} p = subst Zero (product_comm zero_f x) (zero_mul_mag zero_mag (of_pow p))

times_one : (x : Float) → Finite x → x ⊗ one ≡ x
times_one x f = product_comm x one ∙ one_times x f

times_minus : (x : Float) → Finite x → x ⊗ neg one ≡ neg x
times_minus x f = product_comm x (neg one) ∙ mul_neg one x ∙ ap neg (one_times x f)

pub after_zero : {x w : Float} → T (fits binary64 x) → Zero w → Keeps x (w ⊕ x)
after_zero {x} {w} f h = subst (λ (r : Float). Keeps x r) (sum_comm_f x w) (keeps_sum x w f h)

pub less_after_zero : (x : Float) {w : Float} → T (fits binary64 x) → Zero w → Keeps (neg x) (w ⊖ x)
less_after_zero x {w} f h = subst (λ (r : Float). Keeps (neg x) r) (sym (sub_is w x)) (after_zero (neg-fits binary64 x f) h)

-- ---- z times a beam's component is u, up to the signs of zeros
pub record Turned (u r : Complex) : Type 0 where
  pub re : Near 500 u.re r.re
  pub im : Near 500 u.im r.im

abbrev one_c : Complex
one_c = complex one zero_f

module _ (z : Complex) (h : Moderate z) where
  a : Finite z.re
  a = h.finite.re

  b : Finite z.im
  b = h.finite.im

  a0 : Zero (z.re ⊗ zero_f)
  a0 = times_zero h.re

  b0 : Zero (z.im ⊗ zero_f)
  b0 = times_zero h.im

  minus_held : T (fits binary64 (neg z.re))
  minus_held = neg-fits binary64 z.re a.held

  minus_held_im : T (fits binary64 (neg z.im))
  minus_held_im = neg-fits binary64 z.im b.held

  by_one : Turned z (C.mul z one_c)
  unfolding C.mul
  by_one = record {
    re = record { held = a.held; size = h.re; keeps = subst (λ (x : Float). Keeps z.re (x ⊖ z.im ⊗ zero_f)) (sym (times_one z.re a)) (keeps_difference a.held b0) };
    im = record { held = b.held; size = h.im; keeps = subst (λ (x : Float). Keeps z.im (z.re ⊗ zero_f ⊕ x)) (sym (times_one z.im b)) (after_zero b.held a0) };
  }

  by_minus : Turned (complex (neg z.re) (neg z.im)) (C.mul z (complex (neg one) zero_f))
  unfolding C.mul
  by_minus = record {
    re = record { held = minus_held; size = neg_pow h.re; keeps = subst (λ (x : Float). Keeps (neg z.re) (x ⊖ z.im ⊗ zero_f)) (sym (times_minus z.re a)) (keeps_difference minus_held b0) };
    im = record { held = minus_held_im; size = neg_pow h.im; keeps = subst (λ (x : Float). Keeps (neg z.im) (z.re ⊗ zero_f ⊕ x)) (sym (times_minus z.im b)) (after_zero minus_held_im a0) };
  }

  by_i : Turned (complex (neg z.im) z.re) (C.mul z (complex zero_f one))
  unfolding C.mul
  by_i = record {
    re = record { held = minus_held_im; size = neg_pow h.im; keeps = subst (λ (x : Float). Keeps (neg z.im) (z.re ⊗ zero_f ⊖ x)) (sym (times_one z.im b)) (less_after_zero z.im b.held a0) };
    im = record { held = a.held; size = h.re; keeps = subst (λ (x : Float). Keeps z.re (x ⊕ z.im ⊗ zero_f)) (sym (times_one z.re a)) (keeps_sum z.re (z.im ⊗ zero_f) a.held b0) };
  }

  by_minus_i : Turned (complex z.im (neg z.re)) (C.mul z (complex zero_f (neg one)))
  unfolding C.mul
  by_minus_i = record {
    re = record { held = b.held; size = h.im; keeps = subst (λ (x : Float). Keeps z.im (z.re ⊗ zero_f ⊖ x)) (sym (times_minus z.im b)) (subst (λ (x : Float). Keeps x (z.re ⊗ zero_f ⊖ neg z.im)) (neg_neg z.im) (less_after_zero (neg z.im) minus_held_im a0)) };
    im = record { held = minus_held; size = neg_pow h.re; keeps = subst (λ (x : Float). Keeps (neg z.re) (x ⊕ z.im ⊗ zero_f)) (sym (times_minus z.re a)) (keeps_sum (neg z.re) (z.im ⊗ zero_f) minus_held b0) };
  }

  by_zero : Turned C.zero (C.mul z C.zero)
  unfolding C.mul
  by_zero = record {
    re = record { held = zero_held; size = to_pow 500 zero_mag tt; keeps = zeros zero_mag (zero_difference a0 b0) };
    im = record { held = zero_held; size = to_pow 500 zero_mag tt; keeps = zeros zero_mag (zero_sum a0 b0) };
  }

-- ---- the zero entries times a beam's component, beside them
record Unit (e : Complex) : Type 0 where
  re : Pow 500 e.re
  im : Pow 500 e.im

unit_zero : Unit C.zero
unit_zero = record { re = to_pow 500 zero_mag tt; im = to_pow 500 zero_mag tt }

unit_one : Unit one_c
unit_one = record { re = to_pow 500 one_mag tt; im = to_pow 500 zero_mag tt }

unit_minus : Unit (complex (neg one) zero_f)
unit_minus = record { re = neg_pow (to_pow 500 one_mag tt); im = to_pow 500 zero_mag tt }

unit_i : Unit (complex zero_f one)
unit_i = record { re = to_pow 500 zero_mag tt; im = to_pow 500 one_mag tt }

unit_minus_i : Unit (complex zero_f (neg one))
unit_minus_i = record { re = to_pow 500 zero_mag tt; im = neg_pow (to_pow 500 one_mag tt) }

beside : {u r e : Complex} → Turned u r → Unit e → Turned u (C.add r (C.mul C.zero e))
unfolding C.add C.mul
beside h g = record {
  re = record { held = h.re.held; size = h.re.size; keeps = keeps_more h.re.keeps h.re.held (zero_difference (zero_mul_mag zero_mag (of_pow g.re)) (zero_mul_mag zero_mag (of_pow g.im))) };
  im = record { held = h.im.held; size = h.im.size; keeps = keeps_more h.im.keeps h.im.held (zero_sum (zero_mul_mag zero_mag (of_pow g.im)) (zero_mul_mag zero_mag (of_pow g.re))) };
}

-- ---- Stokes vectors
abbrev pub norm : Complex → Float
norm u = u.re ⊗ u.re ⊕ u.im ⊗ u.im

abbrev pub cosine : Complex → Complex → Float
cosine u v = u.re ⊗ v.re ⊕ u.im ⊗ v.im

abbrev pub sine : Complex → Complex → Float
sine u v = u.re ⊗ v.im ⊖ u.im ⊗ v.re

pub record NearStokes (u v : Complex) (s : StokesVector) : Type 0 where
  pub s0 : Near 1002 (norm u ⊕ norm v) s.s0
  pub s1 : Near 1002 (norm u ⊖ norm v) s.s1
  pub s2 : Near 1002 (two ⊗ cosine u v) s.s2
  pub s3 : Near 1002 (two ⊗ sine u v) s.s3

stokes : {u v r t : Complex} → Turned u r → Turned v t → NearStokes u v (to_stokes (record { ex = r; ey = t }))
unfolding to_stokes
stokes h g =
    let x = near_add (near_mul h.re h.re (lit≤ tt)) (near_mul h.im h.im (lit≤ tt)) (lit≤ tt) in
    let y = near_add (near_mul g.re g.re (lit≤ tt)) (near_mul g.im g.im (lit≤ tt)) (lit≤ tt) in
    let two-near = itself two_held two_pow in
    record {
      s0 = near_add x y (lit≤ tt);
      s1 = near_sub x y (lit≤ tt);
      s2 = near_mul two-near (near_add (near_mul h.re g.re (lit≤ tt)) (near_mul h.im g.im (lit≤ tt)) (lit≤ tt)) (lit≤ tt);
      s3 = near_mul two-near (near_sub (near_mul h.re g.im (lit≤ tt)) (near_mul h.im g.re (lit≤ tt)) (lit≤ tt)) (lit≤ tt);
    }

-- ---- the six beams
module _ (tx ty : Complex) (h : Moderate tx) (g : Moderate ty) where
  through : {ex ey u v : Complex} → Turned u (C.mul tx ex) → Turned v (C.mul ty ey) → Unit ex → Unit ey → NearStokes u v (transformed (diattenuator tx ty) ex ey)
  unfolding transformed apply diattenuator dot
  through {ex} {ey} {u} {v} p q e f =
      stokes (beside p f) (subst (λ (r : Complex). Turned v r) (complex_sum_comm (C.mul ty ey) (C.mul C.zero ex)) (beside q e))

  pub of_x : NearStokes tx C.zero (transformed (diattenuator tx ty) one_c C.zero)
  of_x = through (by_one tx h) (by_zero ty g) unit_one unit_zero

  pub of_y : NearStokes C.zero ty (transformed (diattenuator tx ty) C.zero one_c)
  of_y = through (by_zero tx h) (by_one ty g) unit_zero unit_one

  pub of_plus : NearStokes tx ty (transformed (diattenuator tx ty) one_c one_c)
  of_plus = through (by_one tx h) (by_one ty g) unit_one unit_one

  pub of_minus : NearStokes tx (complex (neg ty.re) (neg ty.im)) (transformed (diattenuator tx ty) one_c (complex (neg one) zero_f))
  of_minus = through (by_one tx h) (by_minus ty g) unit_one unit_minus

  pub of_plus_i : NearStokes tx (complex (neg ty.im) ty.re) (transformed (diattenuator tx ty) one_c (complex zero_f one))
  of_plus_i = through (by_one tx h) (by_i ty g) unit_one unit_i

  pub of_minus_i : NearStokes tx (complex ty.im (neg ty.re)) (transformed (diattenuator tx ty) one_c (complex zero_f (neg one)))
  of_minus_i = through (by_one tx h) (by_minus_i ty g) unit_one unit_minus_i
