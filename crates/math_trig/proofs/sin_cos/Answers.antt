-- `math_trig::sin_cos` meets its contract. Assumes nothing.
use borrow.Author.Rules.{rules}
use Rattle.math_trig.specs.Trig.{sin, cos}
use Rattle.math_trig.proofs.sin_cos.Goals as goal

pub returns : goal.returns
unfolding sin cos
returns c = cc
