-- `math_trig::sin_at` meets its contract. Assumes nothing.
use borrow.Author.Rules.{rules}
use Rattle.math_trig.specs.Trig.{sin_at}
use Rattle.math_trig.proofs.Constants.{minus_one_is}
use Rattle.math_trig.proofs.sin_at.Goals as goal

pub returns : goal.returns
unfolding sin_at
returns c = simp (c.clamp.ensures, c.sin_series.ensures, minus_one_is)
