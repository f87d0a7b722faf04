-- The conversion's matrix transforms whole beams exactly: every f64 on the way is a whole number of quarters below 2 ^ 53. Assumes nothing.
use mathlib.Core.Path.{◌≡◌, sym, subst}
use Prim.Native.Nat.{◌*◌, ◌^◌}
use lib.Dec.{T, lit≤, lit<}
use lib.IntN.{ℤ, pos, negsuc}
use lib.Ieee.{Float, neg}
use Rattle.ieee.specs.Functions.{zero_f, one}
use Rattle.thin_film_complex.specs.declared.Complex.{Complex}
use Rattle.polarization_stokes.specs.declared.JonesVector.{JonesVector}
use Rattle.polarization_stokes.specs.declared.StokesVector.{StokesVector}
use Rattle.polarization_stokes.specs.Jones.{to_stokes}
use Rattle.polarization_stokes.specs.BornWolf.{Number, Parameters, in_parts, exact}
use Rattle.polarization_mueller.specs.declared.JonesMatrix.{JonesMatrix}
use Rattle.polarization_mueller.specs.Jones as J
use Rattle.polarization_mueller.specs.Mueller as M
use Rattle.polarization_value.specs.Value.{same, SameStokes}
use Rattle.polarization_value.proofs.Laws.{of_eq}
use Rattle.whole_f64.proofs.Bounds.{Within, within_add, within_sub, within_mul, within_equal, finer}
use Rattle.polarization_born_wolf.specs.Conversion.{complex, transformed, from_six, to_mueller_born_wolf, quarter_gap}
use Rattle.polarization_born_wolf.specs.Claim.{WholeMatrix, WholeVector, StokesAre}
use Rattle.polarization_born_wolf.proofs.Identity as I
use Rattle.polarization_born_wolf.proofs.Parts.{Both, Four, whole_both, both_dot, four, is_zero, is_one, is_minus_one, is_half, is_quarter, zero_quarters}

-- ---- the entries of a row: half a sum and half a difference, a quarter of a difference
pub mean_is : {x y : Float} {x' y' : ℤ} → Within 0 (2 ^ 26) x x' → Within 0 (2 ^ 26) y y' → Within 1 (2 ^ 27) (M.mean x y) (I.once exact (λ (z : ℤ). z) (exact.plus x' y'))
mean_is h g = within_mul is_half (within_add h g (lit< tt) (lit≤ tt)) (lit< tt) (lit≤ tt)

pub half_gap_is : {x y : Float} {x' y' : ℤ} → Within 0 (2 ^ 26) x x' → Within 0 (2 ^ 26) y y' → Within 1 (2 ^ 27) (M.half_gap x y) (I.once exact (λ (z : ℤ). z) (exact.minus x' y'))
half_gap_is h g = within_mul is_half (within_sub h g (lit< tt) (lit≤ tt)) (lit< tt) (lit≤ tt)

pub quarter_gap_is : {x y : Float} {x' y' : ℤ} → Within 0 (2 ^ 26) x x' → Within 0 (2 ^ 26) y y' → Within 2 (2 ^ 27) (quarter_gap x y) (I.once exact (λ (z : ℤ). z) (exact.minus x' y'))
quarter_gap_is h g = within_mul is_quarter (within_sub h g (lit< tt) (lit≤ tt)) (lit< tt) (lit≤ tt)

-- ---- a row times a beam's Stokes vector, in quarters
row_is : {x y plus minus plus_i minus_i : Float} {x' y' plus' minus' plus-i' minus-i' : ℤ} {s : StokesVector} {w : Parameters ℤ}
    → Within 0 (2 ^ 26) x x' → Within 0 (2 ^ 26) y y' → Within 0 (2 ^ 26) plus plus' → Within 0 (2 ^ 26) minus minus' → Within 0 (2 ^ 26) plus_i plus-i' → Within 0 (2 ^ 26) minus_i minus-i' → Four (2 ^ 22) s w
    → Within 2 (3 * 2 ^ 50) (M.row_times (M.mean x y) (M.half_gap x y) (quarter_gap plus minus) (quarter_gap plus_i minus_i) s) (I.row_times exact (λ (z : ℤ). z) x' y' plus' minus' plus-i' minus-i' w)
unfolding M.row_times
row_is x y plus minus plus_i minus_i s =
    let first = within_mul (finer 1 (mean_is x y)) s.s0 (lit< tt) (lit≤ tt) in
    let second = within_mul (finer 1 (half_gap_is x y)) s.s1 (lit< tt) (lit≤ tt) in
    let third = within_mul (quarter_gap_is plus minus) s.s2 (lit< tt) (lit≤ tt) in
    let fourth = within_mul (quarter_gap_is plus_i minus_i) s.s3 (lit< tt) (lit≤ tt) in
    within_add (within_add (within_add (within_add zero_quarters first (lit< tt) (lit≤ tt)) second (lit< tt) (lit≤ tt)) third (lit< tt) (lit≤ tt)) fourth (lit< tt) (lit≤ tt)

-- ---- what the matrix makes of the six beams
abbrev at : ℤ → ℤ → Number ℤ
at a b = record { re = a; im = b }

-- the Stokes vector of what (ex, ey), which is (x, y) over whole numbers, becomes
abbrev Reply : JonesMatrix → Number ℤ → Number ℤ → Number ℤ → Number ℤ → Complex → Complex → Number ℤ → Number ℤ → Type 0
Reply j p q r s ex ey x y = Four (2 ^ 26) (transformed j ex ey) (I.response exact (λ (z : ℤ). z) p q r s x y)

pub record Six (j : JonesMatrix) (p q r s : Number ℤ) : Type 0 where
  pub x : Reply j p q r s (complex one zero_f) (complex zero_f zero_f) (at (pos 1) (pos 0)) (at (pos 0) (pos 0))
  pub y : Reply j p q r s (complex zero_f zero_f) (complex one zero_f) (at (pos 0) (pos 0)) (at (pos 1) (pos 0))
  pub plus : Reply j p q r s (complex one zero_f) (complex one zero_f) (at (pos 1) (pos 0)) (at (pos 1) (pos 0))
  pub minus : Reply j p q r s (complex one zero_f) (complex (neg one) zero_f) (at (pos 1) (pos 0)) (at (negsuc 0) (pos 0))
  pub plus_i : Reply j p q r s (complex one zero_f) (complex zero_f one) (at (pos 1) (pos 0)) (at (pos 0) (pos 1))
  pub minus_i : Reply j p q r s (complex one zero_f) (complex zero_f (neg one)) (at (pos 1) (pos 0)) (at (pos 0) (negsuc 0))

module _ (j : JonesMatrix) (p q r s : Number ℤ) (m : WholeMatrix j p q r s) where
  reply : {a b c d : Float} {a' b' c' d' : ℤ} → Within 0 1 a a' → Within 0 1 b b' → Within 0 1 c c' → Within 0 1 d d'
      → Reply j p q r s (complex a b) (complex c d) (at a' b') (at c' d')
  unfolding transformed J.apply
  reply {a} {b} {c} {d} {a'} {b'} {c'} {d'} ha hb hc hd =
      let e : Both 1 (complex a b) (at a' b') = record { re = ha; im = hb } in
      let f : Both 1 (complex c d) (at c' d') = record { re = hc; im = hd } in
      four (both_dot (whole_both m.m00) e (whole_both m.m01) f (lit< tt)) (both_dot (whole_both m.m10) e (whole_both m.m11) f (lit< tt)) (lit< tt)

  pub six : Six j p q r s
  six = record {
    x = reply is_one is_zero is_zero is_zero;
    y = reply is_zero is_zero is_one is_zero;
    plus = reply is_one is_zero is_one is_zero;
    minus = reply is_one is_zero is_minus_one is_zero;
    plus_i = reply is_one is_zero is_zero is_one;
    minus_i = reply is_one is_zero is_zero is_minus_one;
  }

  -- ---- and of a beam of whole parts
  module _ (v : JonesVector) (x y : Number ℤ) (b : WholeVector v x y) where
    beam_is : Four (2 ^ 22) (to_stokes v) (in_parts exact x y)
    beam_is = four (whole_both b.ex) (whole_both b.ey) (lit< tt)

    whole_reply : Four (2 ^ 46) (to_stokes (J.apply j v)) (I.response exact (λ (z : ℤ). z) p q r s x y)
    unfolding J.apply
    whole_reply = four (both_dot (whole_both m.m00) (whole_both b.ex) (whole_both m.m01) (whole_both b.ey) (lit< tt)) (both_dot (whole_both m.m10) (whole_both b.ex) (whole_both m.m11) (whole_both b.ey) (lit< tt)) (lit< tt)

    pub exactly : StokesAre (to_stokes (J.apply j v)) (I.response exact (λ (z : ℤ). z) p q r s x y)
    exactly = record { s0 = whole_reply.s0.is; s1 = whole_reply.s1.is; s2 = whole_reply.s2.is; s3 = whole_reply.s3.is }

    -- four times the transformed beam's parameters
    equal : {x y : Float} {z w : ℤ} → Within 2 (3 * 2 ^ 50) x z → Within 0 (2 ^ 46) y w → z ≡ exact.times w (pos 4) → T (same x y)
    equal {x} {y} {z} {w} h g e = of_eq x y (within_equal h (subst (λ (v : ℤ). Within 2 (2 ^ 46 * 4) y v) (sym e) (finer 2 g)))

    pub transforms : SameStokes (M.apply_mueller (to_mueller_born_wolf j) (to_stokes v)) (to_stokes (J.apply j v))
    unfolding M.apply_mueller to_mueller_born_wolf from_six
    transforms = record {
      s0 = equal (row_is six.x.s0 six.y.s0 six.plus.s0 six.minus.s0 six.plus_i.s0 six.minus_i.s0 beam_is) whole_reply.s0 (I.first p q r s x y);
      s1 = equal (row_is six.x.s1 six.y.s1 six.plus.s1 six.minus.s1 six.plus_i.s1 six.minus_i.s1 beam_is) whole_reply.s1 (I.second p q r s x y);
      s2 = equal (row_is six.x.s2 six.y.s2 six.plus.s2 six.minus.s2 six.plus_i.s2 six.minus_i.s2 beam_is) whole_reply.s2 (I.third p q r s x y);
      s3 = equal (row_is six.x.s3 six.y.s3 six.plus.s3 six.minus.s3 six.plus_i.s3 six.minus_i.s3 beam_is) whole_reply.s3 (I.fourth p q r s x y);
    }
