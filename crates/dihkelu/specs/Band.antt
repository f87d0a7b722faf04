-- What dihkelu_band returns and writes. Definitions only.
use Rattle.band.specs.declared.BandPowers.{BandPowers}
use Rattle.c_call.specs.Call.{Reply}
use Rattle.c_call.specs.Layout.{both}

-- the count of lines is returned, and s, p are written
abbrev pub banded : BandPowers → Reply
banded b = both b.lines b.s b.p
