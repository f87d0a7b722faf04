-- An answer of atan2, computed by the checker. Assumes nothing.
use mathlib.Core.Path.{◌≡◌, refl}
use lib.Ieee.{binary64, neg, of_bits, is_nan}
use Rattle.ieee.specs.Functions.{minus_one}
use Rattle.math_trig.specs.Angles.{minus_pi}
use Rattle.math_atan.specs.Atan.{with_sign, atan2}

-- y's sign bit counts, a zero's too
atan2_minus_zero : atan2 (of_bits binary64 0x8000_0000_0000_0000) minus_one ≡ minus_pi
unfolding atan2 with_sign neg of_bits is_nan
atan2_minus_zero = refl
