-- What dihkelu_quarter_waves returns and writes. Definitions only.
use Rattle.std.specs.Prelude.{[], ◌∷◌}
use Rattle.quarter_waves.specs.declared.QuarterWaves.{QuarterWaves}
use Rattle.c_call.specs.Call.{Reply, reply}

-- the count is returned, and the remainder written
abbrev pub counted : QuarterWaves → Reply
counted waves = reply waves.count (waves.remainder_nm ∷ [])
