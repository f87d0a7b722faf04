-- exp at some arguments, computed. Assumes nothing.
use mathlib.Core.Path.{refl}
use lib.Ieee.{add, mul, div, lt, of_bits, of_int, is_nan}
use Rattle.math_exp.specs.Exp.{exp_series, squares, exp_at, exp}
use Rattle.math_exp.specs.Known.{KnownExp}

pub known_exp : KnownExp
unfolding exp exp_at exp_series squares lt add mul div of_bits of_int is_nan
known_exp = record { terms = refl; large = refl; too_large = refl; small = refl; too_small = refl; not_a_number = refl }
