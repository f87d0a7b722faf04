-- `math_trig::cos` meets its contract. Assumes nothing.
use borrow.Author.Rules.{rules}
use Rattle.math_trig.specs.Trig.{cos}
use Rattle.math_trig.proofs.cos.Goals as goal

pub returns : goal.returns
unfolding cos
returns c = cc
