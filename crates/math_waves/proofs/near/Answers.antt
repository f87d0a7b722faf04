-- `math_waves::near` meets its contract. Assumes nothing.
use mathlib.Core.Path.{refl}
use lib.Ieee.{neg, of_bits}
use Rattle.math_waves.specs.Internal.{near}
use Rattle.math_waves.proofs.near.Goals as goal

pub returns : goal.returns
unfolding near of_bits neg
returns c = refl
