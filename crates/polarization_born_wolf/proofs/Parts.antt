-- Complex numbers and Stokes vectors whose parts are whole numbers, through the operations of the conversion. Assumes nothing.
use Prim.Native.Nat.{ℕ, ◌+◌, ◌*◌, ◌^◌, ◌≤◌, ◌<◌}
use native.Mathlib.Omega.{arith}
use mathlib.Core.Path.{refl}
use lib.Dec.{lit≤}
use lib.IntN.{ℤ, pos, negsuc, ◌*ℤ◌}
use lib.Ieee.{Float, neg, of_bits}
use Rattle.ieee.specs.Operators.{◌⊗◌}
use Rattle.ieee.specs.Functions.{zero_f, one, two, half, quarter}
use Rattle.thin_film_complex.specs.declared.Complex.{Complex}
use Rattle.thin_film_complex.specs.Complex as C
use Rattle.thin_film_matrix.specs.Matrix as X
use Rattle.polarization_stokes.specs.declared.StokesVector.{StokesVector}
use Rattle.polarization_stokes.specs.Jones.{to_stokes}
use Rattle.polarization_stokes.specs.BornWolf.{Number, Parameters, product, in_parts, exact}
use Rattle.whole_f64.proofs.Bounds.{Within, within_add, within_sub, within_mul, within_neg, wider}
use Rattle.polarization_born_wolf.specs.Claim.{Whole, dot}

-- ---- the constants
pub is_zero : Within 0 1 zero_f (pos 0)
unfolding of_bits
is_zero = record { is = record { fine = tt; size = refl; sign = refl }; most = lit≤ tt }

pub is_one : Within 0 1 one (pos 1)
unfolding of_bits
is_one = record { is = record { fine = tt; size = refl; sign = refl }; most = lit≤ tt }

pub is_minus_one : Within 0 1 (neg one) (negsuc 0)
is_minus_one = within_neg is_one

pub is_two : Within 0 2 two (pos 2)
unfolding of_bits
is_two = record { is = record { fine = tt; size = refl; sign = refl }; most = lit≤ tt }

pub is_half : Within 1 1 half (pos 1)
unfolding of_bits
is_half = record { is = record { fine = tt; size = refl; sign = refl }; most = lit≤ tt }

pub is_quarter : Within 2 1 quarter (pos 1)
unfolding of_bits
is_quarter = record { is = record { fine = tt; size = refl; sign = refl }; most = lit≤ tt }

pub zero_quarters : Within 2 0 zero_f (pos 0)
unfolding of_bits
zero_quarters = record { is = record { fine = tt; size = refl; sign = refl }; most = lit≤ tt }

-- ---- both parts of a complex number, and the four Stokes parameters
pub record Both (b : ℕ) (z : Complex) (w : Number ℤ) : Type 0 where
  pub re : Within 0 b z.re w.re
  pub im : Within 0 b z.im w.im

pub record Four (b : ℕ) (s : StokesVector) (w : Parameters ℤ) : Type 0 where
  pub s0 : Within 0 b s.s0 w.s0
  pub s1 : Within 0 b s.s1 w.s1
  pub s2 : Within 0 b s.s2 w.s2
  pub s3 : Within 0 b s.s3 w.s3

pub whole_both : {z : Complex} {w : Number ℤ} → Whole z w → Both 1024 z w
whole_both h = record { re = record { is = h.re; most = h.re_most }; im = record { is = h.im; most = h.im_most } }

-- the bound of a sum of two products, and what is below 2 ^ 53 where that or twice as much is
abbrev pub two_of : ℕ → ℕ → ℕ
two_of b c = b * c + b * c

abbrev Under : ℕ → Type 0
Under b = b < 2 ^ 53

half_under : (x : ℕ) → Under (x + x) → Under x
half_under x h = omega arith

both_mul : {b c : ℕ} {z z' : Complex} {w w' : Number ℤ} → Both b z w → Both c z' w' → Under (two_of b c) → Both (two_of b c) (C.mul z z') (product exact w w')
unfolding C.mul
both_mul {b} {c} h g u =
    let v = half_under (b * c) u in
    record {
      re = within_sub (within_mul h.re g.re v (lit≤ tt)) (within_mul h.im g.im v (lit≤ tt)) u (lit≤ tt);
      im = within_add (within_mul h.re g.im v (lit≤ tt)) (within_mul h.im g.re v (lit≤ tt)) u (lit≤ tt);
    }

pub both_dot : {b c : ℕ} {z z' y y' : Complex} {w w' v v' : Number ℤ} → Both b z w → Both c z' w' → Both b y v → Both c y' v' → Under (two_of b c + two_of b c)
    → Both (two_of b c + two_of b c) (X.dot z z' y y') (dot exact w w' v v')
unfolding X.dot C.add
both_dot {b} {c} h h' g g' u =
    let v = half_under (two_of b c) u in
    let m = both_mul h h' v in
    let n = both_mul g g' v in
    record { re = within_add m.re n.re u (lit≤ tt); im = within_add m.im n.im u (lit≤ tt) }

pub four : {b : ℕ} {x y : Complex} {w v : Number ℤ} → Both b x w → Both b y v → Under (two_of b b + two_of b b) → Four (two_of b b + two_of b b) (to_stokes (record { ex = x; ey = y })) (in_parts exact w v)
unfolding to_stokes
four {b} h g u =
    let t = half_under (two_of b b) u in
    let q = half_under (b * b) t in
    let m = within_add (within_mul h.re h.re q (lit≤ tt)) (within_mul h.im h.im q (lit≤ tt)) t (lit≤ tt) in
    let n = within_add (within_mul g.re g.re q (lit≤ tt)) (within_mul g.im g.im q (lit≤ tt)) t (lit≤ tt) in
    record {
      s0 = within_add m n u (lit≤ tt);
      s1 = within_sub m n u (lit≤ tt);
      s2 = doubled (within_add (within_mul h.re g.re q (lit≤ tt)) (within_mul h.im g.im q (lit≤ tt)) t (lit≤ tt));
      s3 = doubled (within_sub (within_mul h.re g.im q (lit≤ tt)) (within_mul h.im g.re q (lit≤ tt)) t (lit≤ tt));
    }
  where
    twice : (x : ℕ) → 2 * x ≤ x + x
    twice x = omega arith

    under : (x : ℕ) → Under (x + x) → Under (2 * x)
    under x h = omega arith

    doubled : {x : Float} {z : ℤ} → Within 0 (two_of b b) x z → Within 0 (two_of b b + two_of b b) (two ⊗ x) (pos 2 *ℤ z)
    doubled h = wider (within_mul is_two h (under (two_of b b) u) (lit≤ tt)) (twice (two_of b b))
