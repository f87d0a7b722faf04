-- `math_atan::atan_series` meets its contract: the divisors of the source are the whole numbers 2m+1. Assumes nothing.
use mathlib.Core.Path.{refl}
use lib.Ieee.{of_bits, of_int}
use Rattle.math_atan.specs.Atan.{atan_series}
use Rattle.math_atan.proofs.atan_series.Goals as goal

pub returns : goal.returns
unfolding atan_series of_bits of_int
returns c = refl
