-- Some answers of exp, computed by the checker. Assumes nothing.
use mathlib.Core.Path.{◌≡◌, refl}
use lib.Ieee.{Float, binary64, neg, add, mul, div, lt, of_bits, to_bits, of_int, is_nan}
use Rattle.ieee.specs.Functions.{zero_f, one}
use Rattle.math_exp.specs.Exp.{exp_series, squares, exp_at, exp}

-- -0
abbrev minus_zero : Float
minus_zero = of_bits binary64 0x8000_0000_0000_0000

exp_one : to_bits binary64 (exp one) ≡ 0x4005_BF0A_8B14_5459
unfolding exp exp_at exp_series squares lt add mul div neg of_bits to_bits of_int is_nan
exp_one = refl

exp_plus_zero : exp zero_f ≡ one
unfolding exp exp_at exp_series squares lt add mul div neg of_bits of_int is_nan
exp_plus_zero = refl

exp_minus_zero : exp minus_zero ≡ one
unfolding exp exp_at exp_series squares lt add mul div neg of_bits of_int is_nan
exp_minus_zero = refl
