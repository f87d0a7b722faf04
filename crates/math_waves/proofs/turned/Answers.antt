-- `math_waves::turned` meets its contract. Assumes nothing.
use Rattle.math_trig.proofs.Constants.{minus_half_pi_is}
use Rattle.math_waves.specs.Internal.{turned}
use Rattle.math_waves.proofs.turned.Goals as goal

pub returns-then-r : goal.returns-then-r
unfolding turned
returns-then-r c = simp c.if-r.true

pub returns-then-r-2 : goal.returns-then-r-2
unfolding turned
returns-then-r-2 c = simp (c.if-r.false, minus_half_pi_is, c.if-r-2.true)

pub returns-else-r-2 : goal.returns-else-r-2
unfolding turned
returns-else-r-2 c = simp (c.if-r.false, minus_half_pi_is, c.if-r-2.false)
