-- `math_trig::sin` meets its contract. Assumes nothing.
use borrow.Author.Rules.{rules}
use Rattle.math_trig.specs.Trig.{sin}
use Rattle.math_trig.proofs.sin.Goals as goal

pub returns : goal.returns
unfolding sin
returns c = cc
