-- atan, asin and atan2 at some arguments, computed. Assumes nothing.
use mathlib.Core.Path.{refl}
use lib.Ieee.{neg, add, sub, mul, div, lt, le, of_bits, of_int, is_nan}
use Rattle.ieee.specs.Functions.{abs}
use Rattle.math_root.specs.Root.{square_root}
use Rattle.math_atan.specs.Atan.{with_sign, half_angle, atan_series, atan_poly, atan_abs, atan, asin, turned, atan2}
use Rattle.math_atan.specs.Known.{KnownAtan}

pub known_atan : KnownAtan
unfolding atan2 turned asin atan atan_abs atan_poly atan_series half_angle with_sign square_root abs lt le add sub mul div neg of_bits of_int is_nan
known_atan = record {
  all_terms = refl;
  no_more_terms = refl;
  arcsine = refl;
  plus_plus = refl;
  plus_minus = refl;
  minus_plus = refl;
  minus_minus = refl;
  zeros = refl;
  zero_over_minus_zero = refl;
  one_over_minus_infinity = refl;
  one_over_minus_zero = refl;
  infinity_over_minus_one = refl;
}
