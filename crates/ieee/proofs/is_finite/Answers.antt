-- `ieee::is_finite` meets its contract. Assumes nothing.
use Rattle.ieee.proofs.Signs.{finite_above, finite_not}
use Rattle.ieee.proofs.is_finite.Goals as goal

pub returns-then-x-infinity : goal.returns-then-x-infinity
returns-then-x-infinity c = finite_above _ c.if-x-infinity.true

pub returns-else-x-infinity : goal.returns-else-x-infinity
returns-else-x-infinity c = finite_not _ c.if-x-infinity.false
