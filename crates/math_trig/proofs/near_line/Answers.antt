-- `math_trig::near_line` meets its contract. Assumes nothing.
use mathlib.Core.Path.{refl}
use Rattle.math_trig.specs.Internal.{near_line}
use Rattle.math_trig.proofs.near_line.Goals as goal

pub returns : goal.returns
unfolding near_line
returns c = refl
