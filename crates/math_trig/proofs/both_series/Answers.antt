-- `math_trig::both_series` meets its contract: the divisors of the source are the whole numbers of both series. Assumes nothing.
use mathlib.Core.Path.{refl}
use lib.Ieee.{of_bits, of_int}
use Rattle.math_trig.specs.Trig.{series}
use Rattle.math_trig.proofs.both_series.Goals as goal

pub returns : goal.returns
unfolding series of_bits of_int
returns c = refl
