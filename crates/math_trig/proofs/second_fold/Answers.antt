-- `math_trig::second_fold` meets its contract. Assumes nothing.
use Rattle.math_trig.specs.Trig.{second_fold}
use Rattle.math_trig.proofs.Constants.{minus_pi_is, minus_half_pi_is}
use Rattle.math_trig.proofs.second_fold.Goals as goal

pub returns-then-r : goal.returns-then-r
unfolding second_fold
returns-then-r c = simp c.if-r.true

pub returns-then-r-2 : goal.returns-then-r-2
unfolding second_fold
returns-then-r-2 c = simp (c.if-r.false, minus_half_pi_is, minus_pi_is, c.if-r-2.true)

pub returns-else-r-2 : goal.returns-else-r-2
unfolding second_fold
returns-else-r-2 c = simp (c.if-r.false, minus_half_pi_is, c.if-r-2.false)
