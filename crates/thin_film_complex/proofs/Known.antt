-- Known answers of document 01, computed by the checker. Assumes nothing.
use mathlib.Core.Path.{◌≡◌, refl}
use lib.Ieee as Ieee
use lib.Ieee.{binary64, of_bits}
use Rattle.ieee.specs.Functions.{one}
use Rattle.thin_film_complex.specs.Complex.{real, zero, norm_sq, quotient, div}

-- 1 / 2^-46 = 2^46
pub above_guard : div (real one) (real (of_bits binary64 0x3D10_0000_0000_0000)) ≡ real (of_bits binary64 0x42D0_0000_0000_0000)
unfolding real norm_sq quotient div Ieee.add Ieee.sub Ieee.mul Ieee.div Ieee.lt of_bits
above_guard = refl

-- 1 / 2^-47 = 0: the denominator 2^-94 is below 1e-28
pub below_guard : div (real one) (real (of_bits binary64 0x3D00_0000_0000_0000)) ≡ zero
unfolding real norm_sq quotient div Ieee.add Ieee.mul Ieee.lt of_bits
below_guard = refl
