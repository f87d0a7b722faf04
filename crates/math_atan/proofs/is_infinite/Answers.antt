-- `math_atan::is_infinite` meets its contract. Assumes nothing.
use Rattle.math_atan.proofs.Tests.{infinite, infinite_else}
use Rattle.math_atan.proofs.is_infinite.Goals as goal

pub returns-then-x-infinity : goal.returns-then-x-infinity
returns-then-x-infinity c = infinite _ c.if-x-infinity.true

pub returns-else-x-infinity : goal.returns-else-x-infinity
returns-else-x-infinity c = infinite_else _ c.if-x-infinity.false
