-- What the operations on complex numbers keep of ranges, and of an imaginary part that is a zero. Assumes nothing.
use mathlib.Core.Path.{◌≡◌, sym, subst}
use Prim.Native.Nat.{ℕ, ◌*◌, ◌^◌}
use mathlib.Core.Bool.{◌&&◌}
use lib.Dec.{T}
use lib.Ieee.{Float, binary64, lt, le, of_bits, fits}
use lib.Ieee.Bits.{cond_no}
use lib.Ieee.Fits.{mul-fits, and_r}
use lib.Ieee.Scale.{finite}
use Rattle.ieee.specs.Operators.{◌⊕◌, ◌⊗◌, ◌⊘◌}
use Rattle.ieee.specs.Functions.{zero_f, two, tiny, max}
use Rattle.ieee.specs.Range.{Mag, In, holds, wider, at_most, at_least}
use Rattle.ieee.proofs.Range.Laws.{in_mag, in_lit, in_up, neg_mag, mul_mag, mul_in, sq_in}
use Rattle.ieee.proofs.Range.Sums.{add_mag, add_in}
use Rattle.ieee.proofs.Range.Quotients.{div_in}
use Rattle.ieee.proofs.Range.Tests.{cond_mag, never_under, max_keep}
use Rattle.ieee.proofs.Range.Zero.{zero_mul_mag, mul_zero_mag, add_zero_same, sub_zero_in}
use Rattle.ieee.proofs.Range.Constants.{zero_in, zero_mag, two_in}
use Rattle.math_root.proofs.Range.{sqrt_in}
use Rattle.math_exp.specs.Exp as Exp
use Rattle.math_trig.proofs.TrigBounds.{sin_mag, cos_mag}
use Rattle.thin_film_complex.specs.declared.Complex.{Complex}
use Rattle.thin_film_complex.specs.Complex.{real, zero, norm_sq, exp, half_root, sqrt, mul, quotient, div}
use Rattle.thin_film_complex.proofs.RealRoot.{root_at}
use Rattle.thin_film_bounds.specs.Range.{CMag, Real}

pub real_in : {a i p j : ℕ} {x : Float} → In a i p j x → Real a i p j (real x)
unfolding real
real_in h = record { re = h; im = zero_mag }

pub real_up : {a i p j b k q l : ℕ} {z : Complex} → Real a i p j z → T (wider b k a i && wider p j q l) → Real b k q l z
real_up h t = record { re = in_up h.re t; im = h.im }

-- ---- the squared size of a real one is the square of its real part
pub norm_same : {a i p j : ℕ} {z : Complex} (q l : ℕ) → Real a i p j z → T (at_most (p * p) (2 ^ j * 2 ^ j) q l) → norm_sq z ≡ z.re ⊗ z.re
unfolding norm_sq
norm_same {z = z} q l h t =
    let s : In 0 0 q l (z.re ⊗ z.re) = sq_in (in_mag h.re) t in
    add_zero_same (z.re ⊗ z.re) s.sign (mul-fits binary64 z.re z.re) (zero_mul_mag h.im h.im)

pub norm_in : {a i p j b k q l : ℕ} {z : Complex} → Real a i p j z → T (at_least (a * a) (2 ^ i * 2 ^ i) b k && at_most (p * p) (2 ^ j * 2 ^ j) q l) → In b k q l (norm_sq z)
norm_in {a} {i} {p} {j} {b} {k} {q} {l} {z} h t =
    subst (λ (x : Float). In b k q l x) (sym (norm_same q l h (and_r (at_least (a * a) (2 ^ i * 2 ^ i) b k) (at_most (p * p) (2 ^ j * 2 ^ j) q l) t))) (mul_in h.re h.re t)

-- ---- division: 1e-28 is from 2 ^ -94 to 2 ^ -93, and a denominator above that is not replaced
pub tiny_in : In 1 94 1 93 tiny
unfolding of_bits
tiny_in = in_lit tiny tt

pub div_is : {b k q l : ℕ} (z w : Complex) → In b k q l (norm_sq w) → T (wider 1 93 b k) → div z w ≡ quotient z w (norm_sq w)
unfolding div
div_is z w h t = cond_no (lt (norm_sq w) tiny) zero (quotient z w (norm_sq w)) (never_under h tiny_in t)

-- ---- products of real ones
pub mul_real : {a i p j b k q l c m r n : ℕ} {z w : Complex} → Real a i p j z → Real b k q l w → T (at_least (a * b) (2 ^ i * 2 ^ k) c m && at_most (p * q) (2 ^ j * 2 ^ l) r n) → T (holds c m && holds r n) → Real c m r n (mul z w)
unfolding mul
mul_real h g t u = record {
  re = sub_zero_in (mul_in h.re g.re t) (zero_mul_mag h.im g.im) u;
  im = add_mag (mul_zero_mag (in_mag h.re) g.im) (zero_mul_mag h.im (in_mag g.re)) tt;
}

-- ---- the root of a real one from 7/32 to 1: its norm is its real part, so the root is real
half_root_in : {x : Float} → In 7 4 2 0 x → In 7 4 1 0 (half_root x)
unfolding half_root
half_root_in {x} h =
    let a : In 7 5 1 0 (x ⊘ two) = div_in h two_in tt in
    let b : In 7 5 1 0 (max (x ⊘ two) zero_f) = max_keep a zero_in tt in
    sqrt_in b tt

-- and of 1 it is 1
half_root_one : {x : Float} → In 2 0 2 0 x → In 1 0 1 0 (half_root x)
unfolding half_root
half_root_one {x} h =
    let a : In 1 0 1 0 (x ⊘ two) = div_in h two_in tt in
    let b : In 1 0 1 0 (max (x ⊘ two) zero_f) = max_keep a zero_in tt in
    sqrt_in b tt

root_real : {a i p j : ℕ} (z : Complex) → In 7 5 1 0 z.re → Mag 0 0 z.im → T (fits binary64 z.re) → In a i p j (half_root (z.re ⊕ z.re)) → Real a i p j (sqrt z)
root_real {a} {i} {p} {j} z h m f r =
    subst (λ (w : Complex). Real a i p j w) (sym (root_at z.re z.im f (in_up h tt) m))
    (record { re = r; im = cond_mag (le zero_f z.im) zero_mag (neg_mag zero_mag) })

pub sqrt_real : (z : Complex) → Real 7 5 1 0 z → T (fits binary64 z.re) → Real 7 4 1 0 (sqrt z)
sqrt_real z h f = let u : In 7 4 2 0 (z.re ⊕ z.re) = add_in h.re h.re tt in root_real z h.re h.im f (half_root_in u)

pub sqrt_one : (z : Complex) → Real 1 0 1 0 z → T (fits binary64 z.re) → Real 1 0 1 0 (sqrt z)
sqrt_one z h f = let u : In 2 0 2 0 (z.re ⊕ z.re) = add_in h.re h.re tt in root_real z (in_up h.re tt) h.im f (half_root_one u)

-- ---- e ^ z, where e ^ x is at most p: both parts are at most p
pub exp_mag : {p : ℕ} (z : Complex) → Mag p 0 (Exp.exp z.re) → T (finite z.im) → T (at_most (p * 1) (2 ^ 0 * 2 ^ 0) p 0) → CMag p 0 (exp z)
unfolding exp
exp_mag z h f t = record { re = mul_mag h (cos_mag z.im f) t; im = mul_mag h (sin_mag z.im f) t }
