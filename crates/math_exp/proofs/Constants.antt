-- The constant that the source writes with a sign. Assumes nothing.
use mathlib.Core.Path.{◌≡◌, refl}
use lib.Ieee.{Float, binary64, neg, of_bits}
use Rattle.math_exp.specs.Exp.{exp_least}

-- 746
abbrev pub minus_exp_least : Float
minus_exp_least = of_bits binary64 0x4087_5000_0000_0000

pub exp_least_is : exp_least ≡ neg minus_exp_least
unfolding of_bits neg
exp_least_is = refl
