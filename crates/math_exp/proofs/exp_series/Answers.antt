-- `math_exp::exp_series` meets its contract: the divisors of the source are the whole numbers m. Assumes nothing.
use mathlib.Core.Path.{refl}
use lib.Ieee.{of_bits, of_int}
use Rattle.math_exp.specs.Exp.{exp_series}
use Rattle.math_exp.proofs.exp_series.Goals as goal

pub returns : goal.returns
unfolding exp_series of_bits of_int
returns c = refl
