-- `quarter_waves::divided` meets its contract. The measure is how often q goes into p: 2q goes less often.
use Rattle.std.proofs.Common.{◌/◌}
use Rattle.ieee.specs.Count.{count}
use Rattle.quarter_waves.proofs.+divided.Given as goal

abbrev pub decreases-divided : goal.decreases-divided
decreases-divided l = count l.p / count l.q
