-- `math_trig::cos_series` meets its contract: the divisors of the source are the whole numbers (2m-1)(2m). Assumes nothing.
use mathlib.Core.Path.{refl}
use lib.Ieee.{of_bits, of_int}
use Rattle.math_trig.specs.Trig.{series}
use Rattle.math_trig.proofs.cos_series.Goals as goal

pub returns : goal.returns
unfolding series of_bits of_int
returns c = refl
