-- The claim of specs/Quick.antt: the constants are as near to 1 / c as the laws ask. Assumes nothing.
use Prim.Native.Nat.{ℕ, ◌+◌, ◌-◌, ◌*◌, ◌^◌}
use mathlib.Core.Bool.{Bool, false, ◌&&◌}
use lib.Dec.{T, leb, ltb, eqb, leb→le, ltb→lt, eqb→eq}
use lib.Pow.{pow_pos}
use lib.Ieee.{Float, mul, round, of_int, of_bits}
use lib.Ieee.Exact.{HasValue}
use lib.Ieee.Fits.{and_l, and_r}
use lib.Ieee.Positive.{num, den}
use Rattle.ieee.specs.Operators.{◌⊗◌}
use Rattle.ieee.specs.Range.{plus, magb, inb}
use Rattle.ieee.proofs.Range.Laws.{mag_lit, in_lit}
use Rattle.ieee_quotient.specs.Quick.{whole, below_6, above_6, below_12, above_12, below_20, above_20, below_72, above_72, below_132, above_132, below_272, above_272, QuickClaim}
use Rattle.ieee_quotient.proofs.Units.{has_value}
use Rattle.ieee_quotient.proofs.Laws.{divisor, Constants}
use Rattle.ieee_quotient.proofs.Step.{step_is}

-- ---- tests, which compute to true at numerals
abbrev is : Float → ℕ → ℕ → Bool
is x a c = plus x && eqb (num x * c) (a * den x)

to_value : (x : Float) (a c : ℕ) → T (is x a c) → HasValue x false a c
to_value x a c t = has_value x a c (and_l (plus x) (eqb (num x * c) (a * den x)) t) (eqb→eq (num x * c) (a * den x) (and_r (plus x) (eqb (num x * c) (a * den x)) t))

-- y is n / 2 ^ i, and u is m / 2 ^ j
constants : (e b n i m j : ℕ) (y ya yb u c : Float) → T (is y n (2 ^ i)) → T (is ya (n * 2 ^ (e + b + 1)) (2 ^ i)) → T (is yb (n * 2 ^ b) (2 ^ i)) → T (is u m (2 ^ j)) → T (is c (divisor e b) 1)
    → T (leb (n * divisor e b * (2 ^ 53 + 1)) (2 ^ i * 2 ^ 53)) → T (leb (2 ^ i * (2 ^ 51 - 1)) (n * divisor e b * 2 ^ 51))
    → T (leb (2 ^ j * 2 ^ 53) (m * divisor e b * (2 ^ 53 - 1))) → T (leb (m * divisor e b * 2 ^ 51) (2 ^ j * (2 ^ 51 + 1)))
    → T (leb (2 ^ i) (n * 2 ^ 12)) → T (leb (2 ^ j) (m * 2 ^ 12)) → T (ltb (16 * (2 * 2 ^ e + 1)) (2 ^ 50)) → T (leb (2 ^ (e + b + 1)) (2 ^ 8))
    → T (magb 1 0 y) → T (magb 1 0 ya) → T (magb 1 0 yb) → T (magb 1 0 u) → T (inb 2 0 1000 0 c) → Constants e b y ya yb u c
constants e b n i m j y ya yb u c t1 t2 t3 t4 t5 t6 t7 t8 t9 t10 t11 t12 t13 t14 t15 t16 t17 t18 =
    record {
      ny = n;
      dy = 2 ^ i;
      nu = m;
      du = 2 ^ j;
      dy_pos = pow_pos i;
      du_pos = pow_pos j;
      y_is = to_value y n (2 ^ i) t1;
      ya_is = to_value ya (n * 2 ^ (e + b + 1)) (2 ^ i) t2;
      yb_is = to_value yb (n * 2 ^ b) (2 ^ i) t3;
      u_is = to_value u m (2 ^ j) t4;
      c_is = to_value c (divisor e b) 1 t5;
      y_below = leb→le (n * divisor e b * (2 ^ 53 + 1)) (2 ^ i * 2 ^ 53) t6;
      y_near = leb→le (2 ^ i * (2 ^ 51 - 1)) (n * divisor e b * 2 ^ 51) t7;
      u_above = leb→le (2 ^ j * 2 ^ 53) (m * divisor e b * (2 ^ 53 - 1)) t8;
      u_near = leb→le (m * divisor e b * 2 ^ 51) (2 ^ j * (2 ^ 51 + 1)) t9;
      y_size = leb→le (2 ^ i) (n * 2 ^ 12) t10;
      u_size = leb→le (2 ^ j) (m * 2 ^ 12) t11;
      few = ltb→lt (16 * (2 * 2 ^ e + 1)) (2 ^ 50) t12;
      small = leb→le (2 ^ (e + b + 1)) (2 ^ 8) t13;
      y_most = mag_lit y t14;
      ya_most = mag_lit ya t15;
      yb_most = mag_lit yb t16;
      u_most = mag_lit u t17;
      c_in = in_lit c t18;
    }

constants_6 : Constants 0 1 below_6 (below_6 ⊗ whole 4) (below_6 ⊗ whole 2) above_6 (whole 6)
unfolding mul round of_int of_bits
constants_6 = constants 0 1 6004799503160660 55 6004799503160663 55 below_6 (below_6 ⊗ whole 4) (below_6 ⊗ whole 2) above_6 (whole 6) tt tt tt tt tt tt tt tt tt tt tt tt tt tt tt tt tt tt

constants_12 : Constants 0 2 below_12 (below_12 ⊗ whole 8) (below_12 ⊗ whole 4) above_12 (whole 12)
unfolding mul round of_int of_bits
constants_12 = constants 0 2 6004799503160660 56 6004799503160663 56 below_12 (below_12 ⊗ whole 8) (below_12 ⊗ whole 4) above_12 (whole 12) tt tt tt tt tt tt tt tt tt tt tt tt tt tt tt tt tt tt

constants_20 : Constants 1 2 below_20 (below_20 ⊗ whole 16) (below_20 ⊗ whole 4) above_20 (whole 20)
unfolding mul round of_int of_bits
constants_20 = constants 1 2 7205759403792792 57 7205759403792795 57 below_20 (below_20 ⊗ whole 16) (below_20 ⊗ whole 4) above_20 (whole 20) tt tt tt tt tt tt tt tt tt tt tt tt tt tt tt tt tt tt

constants_72 : Constants 2 3 below_72 (below_72 ⊗ whole 64) (below_72 ⊗ whole 8) above_72 (whole 72)
unfolding mul round of_int of_bits
constants_72 = constants 2 3 8006399337547547 59 8006399337547550 59 below_72 (below_72 ⊗ whole 64) (below_72 ⊗ whole 8) above_72 (whole 72) tt tt tt tt tt tt tt tt tt tt tt tt tt tt tt tt tt tt

constants_132 : Constants 4 2 below_132 (below_132 ⊗ whole 128) (below_132 ⊗ whole 4) above_132 (whole 132)
unfolding mul round of_int of_bits
constants_132 = constants 4 2 8734253822779142 60 8734253822779145 60 below_132 (below_132 ⊗ whole 128) (below_132 ⊗ whole 4) above_132 (whole 132) tt tt tt tt tt tt tt tt tt tt tt tt tt tt tt tt tt tt

constants_272 : Constants 3 4 below_272 (below_272 ⊗ whole 256) (below_272 ⊗ whole 16) above_272 (whole 272)
unfolding mul round of_int of_bits
constants_272 = constants 3 4 8477364004462109 61 8477364004462112 61 below_272 (below_272 ⊗ whole 256) (below_272 ⊗ whole 16) above_272 (whole 272) tt tt tt tt tt tt tt tt tt tt tt tt tt tt tt tt tt tt

pub quick_claim : QuickClaim
quick_claim = record { by_6 = step_is 0 1 (whole 4) (whole 2) constants_6; by_12 = step_is 0 2 (whole 8) (whole 4) constants_12; by_20 = step_is 1 2 (whole 16) (whole 4) constants_20; by_72 = step_is 2 3 (whole 64) (whole 8) constants_72; by_132 = step_is 4 2 (whole 128) (whole 4) constants_132; by_272 = step_is 3 4 (whole 256) (whole 16) constants_272 }
