-- The constants that the source writes with a sign. Assumes nothing.
use mathlib.Core.Path.{◌≡◌, refl}
use lib.Ieee.{neg, of_bits}
use Rattle.ieee.specs.Functions.{one, minus_one}
use Rattle.math_trig.specs.Angles.{pi, minus_pi, half_pi, minus_half_pi}

pub minus_one_is : minus_one ≡ neg one
unfolding of_bits neg
minus_one_is = refl

pub minus_pi_is : minus_pi ≡ neg pi
unfolding of_bits neg
minus_pi_is = refl

pub minus_half_pi_is : minus_half_pi ≡ neg half_pi
unfolding of_bits neg
minus_half_pi_is = refl
