-- Complex numbers and matrices up to a power of two: a layer's matrix with entries up to 2 ^ g raises the bound of a product by g + 2 doublings. Assumes nothing.
use Prim.Native.Nat.{ℕ, suc, ◌+◌, ◌*◌, ◌^◌, ◌≤◌, zero-le}
use native.Mathlib.Omega.{arith}
use lib.Dec.{T, leb}
use lib.Ieee.{Float, lt}
use Rattle.ieee.specs.Functions.{tiny}
use Rattle.ieee.specs.Operators.{◌⊗◌}
use Rattle.ieee.specs.Range.{plus, In, Pow}
use Rattle.ieee.proofs.Range.Laws.{in_mag}
use Rattle.ieee.proofs.Range.Powers.{to_pow, pow_up, mul_pow, add_pow, sub_pow, div_pow}
use Rattle.ieee.proofs.Range.Plus.{sq_plus, add_plus, plus_in}
use Rattle.ieee.proofs.Range.Tests.{choose, nlt_in}
use Rattle.ieee.proofs.Range.Constants.{zero_mag, one_mag}
use Rattle.thin_film_complex.specs.declared.Complex.{Complex}
use Rattle.thin_film_complex.specs.Complex.{real, zero, norm_sq, add, sub, mul, quotient, div}
use Rattle.thin_film_matrix.specs.Matrix.{Matrix, dot, mat_mul, identity}
use Rattle.thin_film_bounds.specs.Range.{CMag, CPow, Real, MPow}
use Rattle.thin_film_bounds.proofs.Complex.{tiny_in}

-- ---- complex numbers
pub cpow_up : {i k : ℕ} {z : Complex} → CPow i z → i ≤ k → CPow k z
cpow_up h l = record { re = pow_up h.re l; im = pow_up h.im l }

pub cmag_pow : {p j : ℕ} (k : ℕ) {z : Complex} → CMag p j z → T (leb p (2 ^ k * 2 ^ j)) → CPow k z
cmag_pow k h t = record { re = to_pow k h.re t; im = to_pow k h.im t }

pub real_pow : {a i p j : ℕ} (k : ℕ) {z : Complex} → Real a i p j z → T (leb p (2 ^ k * 2 ^ j)) → CPow k z
real_pow k h t = record { re = to_pow k (in_mag h.re) t; im = pow_up (to_pow 0 h.im tt) zero-le }

pub zero_pow : (k : ℕ) → CPow k zero
zero_pow k = record { re = pow_up (to_pow 0 zero_mag tt) zero-le; im = pow_up (to_pow 0 zero_mag tt) zero-le }

pub cadd_pow : {k : ℕ} {z w : Complex} → CPow k z → CPow k w → suc k ≤ 1023 → CPow (suc k) (add z w)
unfolding add
cadd_pow h g l = record { re = add_pow h.re g.re l; im = add_pow h.im g.im l }

pub csub_pow : {k : ℕ} {z w : Complex} → CPow k z → CPow k w → suc k ≤ 1023 → CPow (suc k) (sub z w)
unfolding sub
csub_pow h g l = record { re = sub_pow h.re g.re l; im = sub_pow h.im g.im l }

pub cmul_pow : {i j : ℕ} {z w : Complex} → CPow i z → CPow j w → suc (i + j) ≤ 1023 → CPow (suc (i + j)) (mul z w)
unfolding mul
cmul_pow {i} {j} h g l =
    let m : i + j ≤ 1023 = omega arith in
    record { re = sub_pow (mul_pow h.re g.re m) (mul_pow h.im g.im m) l; im = add_pow (mul_pow h.re g.im m) (mul_pow h.im g.re m) l }

pub norm_pow : {k : ℕ} {z : Complex} → CPow k z → suc (k + k) ≤ 1023 → Pow (suc (k + k)) (norm_sq z)
unfolding norm_sq
norm_pow {k} h l =
    let m : k + k ≤ 1023 = omega arith in
    add_pow (mul_pow h.re h.re m) (mul_pow h.im h.im m) l

pub norm_plus : {k : ℕ} {z : Complex} → CPow k z → suc (k + k) ≤ 1023 → T (plus (norm_sq z))
unfolding norm_sq
norm_plus {k} {z} h l =
    let m : k + k ≤ 1023 = omega arith in
    let r = mul_pow h.re h.re m in
    let i = mul_pow h.im h.im m in
    add_plus (z.re ⊗ z.re) (z.im ⊗ z.im) (sq_plus z.re h.re.fine r.fine) (sq_plus z.im h.im.fine i.fine) (add_pow r i l).fine

-- ---- the quotient by a denominator of 2 ^ -m at least
pub quotient_pow : {i j m q l : ℕ} (z w : Complex) (d : Float) → CPow i z → CPow j w → In 1 m q l d → suc (i + j) + m ≤ 1023 → CPow (suc (i + j) + m) (quotient z w d)
unfolding quotient
quotient_pow {i} {j} {m} z w d h g D b =
    let r : i + j ≤ 1023 = omega arith in
    let n : suc (i + j) ≤ 1023 = omega arith in
    record {
      re = div_pow (add_pow (mul_pow h.re g.re r) (mul_pow h.im g.im r) n) D b;
      im = div_pow (sub_pow (mul_pow h.im g.re r) (mul_pow h.re g.im r) n) D b;
    }

-- the guarded one: a denominator that is not below 1e-28 is 2 ^ -94 at least
pub cdiv_pow : {i j : ℕ} (z w : Complex) → CPow i z → CPow j w → suc (i + j) + 94 ≤ 1023 → suc (j + j) ≤ 1023 → CPow (suc (i + j) + 94) (div z w)
unfolding div
cdiv_pow {i} {j} z w h g b c =
    choose (λ v. CPow (suc (i + j) + 94) v) (lt (norm_sq w) tiny) zero (quotient z w (norm_sq w)) (λ t. zero_pow (suc (i + j) + 94))
    (λ t. quotient_pow z w (norm_sq w) h g (nlt_in tiny_in (plus_in (norm_plus g c) (norm_pow g c)) t) b)

-- ---- matrices
pub mpow_up : {i k : ℕ} {m : Matrix} → MPow i m → i ≤ k → MPow k m
mpow_up M l = record { m11 = cpow_up M.m11 l; m12 = cpow_up M.m12 l; m21 = cpow_up M.m21 l; m22 = cpow_up M.m22 l }

pub identity_pow : MPow 0 identity
unfolding real
identity_pow =
    let one : CPow 0 (real _) = record { re = to_pow 0 one_mag tt; im = to_pow 0 zero_mag tt } in
    record { m11 = one; m12 = zero_pow 0; m21 = zero_pow 0; m22 = one }

pub dot_pow : {k g : ℕ} {a b c d : Complex} → CPow k a → CPow g b → CPow k c → CPow g d → suc (suc (k + g)) ≤ 1023 → CPow (suc (suc (k + g))) (dot a b c d)
unfolding dot
dot_pow {k} {g} A B C D l =
    let e : suc (k + g) ≤ 1023 = omega arith in
    cadd_pow (cmul_pow A B e) (cmul_pow C D e) l

pub mat_mul_pow : {k g : ℕ} {m n : Matrix} → MPow k m → MPow g n → suc (suc (k + g)) ≤ 1023 → MPow (suc (suc (k + g))) (mat_mul m n)
unfolding mat_mul
mat_mul_pow M N l = record {
  m11 = dot_pow M.m11 N.m11 M.m12 N.m21 l;
  m12 = dot_pow M.m11 N.m12 M.m12 N.m22 l;
  m21 = dot_pow M.m21 N.m11 M.m22 N.m21 l;
  m22 = dot_pow M.m21 N.m12 M.m22 N.m22 l;
}
