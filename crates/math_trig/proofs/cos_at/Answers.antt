-- `math_trig::cos_at` meets its contract. Assumes nothing.
use borrow.Author.Rules.{rules}
use Rattle.math_trig.specs.Trig.{cos_at}
use Rattle.math_trig.proofs.Constants.{minus_one_is}
use Rattle.math_trig.proofs.cos_at.Goals as goal

pub returns : goal.returns
unfolding cos_at
returns c = simp (c.clamp.ensures, c.cos_series.ensures, minus_one_is)
