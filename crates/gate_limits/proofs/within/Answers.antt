-- `gate_limits::within` meets its contract. Assumes nothing.
use Rattle.gate_limits.specs.Limits.{within}
use Rattle.gate_limits.proofs.within.Goals as goal

pub returns-then-lo-x : goal.returns-then-lo-x
unfolding within
returns-then-lo-x c = simp c.if-lo-x.true

pub returns-else-lo-x : goal.returns-else-lo-x
unfolding within
returns-else-lo-x c = simp c.if-lo-x.false
