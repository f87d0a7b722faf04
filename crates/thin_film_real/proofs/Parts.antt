-- Complex numbers and matrices beside real numbers, up to a zero's sign: what is kept of them by the solver's operations. Assumes nothing.
use mathlib.Core.Path.{◌≡◌, sym, ◌∙◌, subst}
use mathlib.Core.Bool.{false}
use lib.Dec.{T}
use lib.Ieee.{Float, binary64, neg, lt, fits}
use lib.Ieee.Fits.{mul-fits, neg-fits}
use Rattle.ieee.specs.Operators.{◌⊕◌, ◌⊖◌, ◌⊗◌, ◌⊘◌}
use Rattle.ieee.specs.Functions.{tiny}
use Rattle.ieee.proofs.Range.Laws.{sub_is}
use Rattle.ieee.proofs.Range.Constants.{zero_mag}
use Rattle.thin_film_complex.specs.declared.Complex.{Complex}
use Rattle.thin_film_complex.specs.Complex.{real, norm_sq, add, mul, quotient, div, ◌⊞◌, ◌⊠◌, ◌⧄◌}
use Rattle.thin_film_matrix.specs.Matrix.{Matrix, at, dot, mat_mul}
use Rattle.polarization_value.proofs.Keeps.{Zero, zero_sum, zero_difference, Keeps, kept, keeps_more}
use Rattle.polarization_value.proofs.Commute.{sum_comm_f}
use Rattle.thin_film_real.proofs.Keeps.{Fine, Divides, zero_times, times_zero, zero_over, keeps_fine, keeps_mul, keeps_add, keeps_div, keeps_less, zero_plus, zero_less, keeps_square, square_and_zero}

-- ---- a complex number that is real: its real part is x, or both are zeros
pub record Re (x : Float) (z : Complex) : Type 0 where
  pub re : Keeps x z.re
  pub im : Zero z.im

-- one that is imaginary
pub record Im (x : Float) (z : Complex) : Type 0 where
  pub re : Zero z.re
  pub im : Keeps x z.im

-- both parts
pub record Both (x y : Float) (z : Complex) : Type 0 where
  pub re : Keeps x z.re
  pub im : Keeps y z.im

pub real_re : (x : Float) → Re x (real x)
unfolding real
real_re x = record { re = kept; im = zero_mag }

pub re_is : {x y : Float} {z : Complex} → x ≡ y → Re x z → Re y z
re_is {z = z} e h = subst (λ (t : Float). Re t z) e h

pub im_is : {x y : Float} {z : Complex} → x ≡ y → Im x z → Im y z
im_is {z = z} e h = subst (λ (t : Float). Im t z) e h

-- ---- products
module _ {x y : Float} {z w : Complex} (f : Fine x) (g : Fine y) where
  pub re_re : Re x z → Re y w → Re (x ⊗ y) (z ⊠ w)
  unfolding mul
  re_re h k = record {
    re = keeps_less (keeps_mul h.re k.re f g) (mul-fits binary64 x y) (zero_times h.im (record { fine = k.im.fine }));
    im = zero_sum (times_zero (keeps_fine h.re f) k.im) (zero_times h.im (keeps_fine k.re g));
  }

  pub re_im : Re x z → Im y w → Im (x ⊗ y) (z ⊠ w)
  unfolding mul
  re_im h k = record {
    re = zero_difference (times_zero (keeps_fine h.re f) k.re) (zero_times h.im (keeps_fine k.im g));
    im = keeps_more (keeps_mul h.re k.im f g) (mul-fits binary64 x y) (zero_times h.im (record { fine = k.re.fine }));
  }

  pub im_re : Im x z → Re y w → Im (x ⊗ y) (z ⊠ w)
  unfolding mul
  im_re h k = record {
    re = zero_difference (zero_times h.re (keeps_fine k.re g)) (times_zero (keeps_fine h.im f) k.im);
    im = zero_plus (zero_times h.re (record { fine = k.im.fine })) (keeps_mul h.im k.re f g) (mul-fits binary64 x y);
  }

  pub im_im : Im x z → Im y w → Re (neg (x ⊗ y)) (z ⊠ w)
  unfolding mul
  im_im h k = record {
    re = zero_less (zero_times h.re (record { fine = k.re.fine })) (keeps_mul h.im k.im f g) (mul-fits binary64 x y);
    im = zero_sum (zero_times h.re (keeps_fine k.im g)) (times_zero (keeps_fine h.im f) k.re);
  }

-- ---- sums
module _ {x y : Float} {z w : Complex} (f : T (fits binary64 x)) (g : T (fits binary64 y)) where
  pub re_add : Re x z → Re y w → Re (x ⊕ y) (z ⊞ w)
  unfolding add
  re_add h k = record { re = keeps_add h.re k.re f g; im = zero_sum h.im k.im }

  pub im_add : Im x z → Im y w → Im (x ⊕ y) (z ⊞ w)
  unfolding add
  im_add h k = record { re = zero_sum h.re k.re; im = keeps_add h.im k.im f g }

-- ---- quotients by a real number
module _ {y : Float} {w : Complex} (g : Fine y) (k : Re y w) (large : lt (y ⊗ y) tiny ≡ false) (d : Divides (y ⊗ y)) where
  norm_is : norm_sq w ≡ y ⊗ y
  unfolding norm_sq
  norm_is = square_and_zero w.re (keeps_fine k.re g) k.im ∙ keeps_square k.re

  div_is : (z : Complex) → z ⧄ w ≡ quotient z w (y ⊗ y)
  unfolding div
  div_is z = simp (norm_is, large)

  pub re_over : {x : Float} {z : Complex} → Fine x → Re x z → Re ((x ⊗ y) ⊘ (y ⊗ y)) (z ⧄ w)
  re_over {x} {z} f h = subst (Re ((x ⊗ y) ⊘ (y ⊗ y))) (sym (div_is z))
      (unfold quotient in record {
        re = keeps_div (keeps_more (keeps_mul h.re k.re f g) (mul-fits binary64 x y) (zero_times h.im (record { fine = k.im.fine }))) d;
        im = zero_over (zero_difference (zero_times h.im (keeps_fine k.re g)) (times_zero (keeps_fine h.re f) k.im)) d;
      })

  pub im_over : {x : Float} {z : Complex} → Fine x → Im x z → Im ((x ⊗ y) ⊘ (y ⊗ y)) (z ⧄ w)
  im_over {x} {z} f h = subst (Im ((x ⊗ y) ⊘ (y ⊗ y))) (sym (div_is z))
      (unfold quotient in record {
        re = zero_over (zero_sum (zero_times h.re (keeps_fine k.re g)) (times_zero (keeps_fine h.im f) k.im)) d;
        im = keeps_div (keeps_less (keeps_mul h.im k.re f g) (mul-fits binary64 x y) (zero_times h.re (record { fine = k.im.fine }))) d;
      })

-- ---- matrices [[a, i b], [i c, d]]
pub record Of (a b c d : Float) (m : Matrix) : Type 0 where
  pub m11 : Re a (at m 0 0)
  pub m12 : Im b (at m 0 1)
  pub m21 : Im c (at m 1 0)
  pub m22 : Re d (at m 1 1)

module _ {a b c d e y z : Float} {m n : Matrix} (fa : Fine a) (fb : Fine b) (fc : Fine c) (fd : Fine d) (fe : Fine e) (fy : Fine y) (fz : Fine z) where
  -- a product of two
  pub product : Of a b c d m → Of e y z e n → Of (a ⊗ e ⊖ b ⊗ z) (a ⊗ y ⊕ b ⊗ e) (c ⊗ e ⊕ d ⊗ z) (d ⊗ e ⊖ c ⊗ y) (mat_mul m n)
  unfolding mat_mul dot
  product h k = record {
    m11 = re_is (sym (sub_is (a ⊗ e) (b ⊗ z))) (re_add (mul-fits binary64 a e) (neg-fits binary64 (b ⊗ z) (mul-fits binary64 b z)) (re_re fa fe h.m11 k.m11) (im_im fb fz h.m12 k.m21));
    m12 = im_add (mul-fits binary64 a y) (mul-fits binary64 b e) (re_im fa fy h.m11 k.m12) (im_re fb fe h.m12 k.m22);
    m21 = im_add (mul-fits binary64 c e) (mul-fits binary64 d z) (im_re fc fe h.m21 k.m11) (re_im fd fz h.m22 k.m21);
    m22 = re_is (sum_comm_f (neg (c ⊗ y)) (d ⊗ e) ∙ sym (sub_is (d ⊗ e) (c ⊗ y))) (re_add (neg-fits binary64 (c ⊗ y) (mul-fits binary64 c y)) (mul-fits binary64 d e) (im_im fc fy h.m21 k.m12) (re_re fd fe h.m22 k.m22));
  }
