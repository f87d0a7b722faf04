-- The known answers, computed. Assumes nothing.
use mathlib.Core.Path.{refl}
use lib.Ieee.{round, mul, div, le, of_bits}
use Rattle.ieee.specs.Count.{count}
use Rattle.gate_limits.specs.Limits.{within}
use Rattle.quarter_waves.specs.Waves.{divided, admitted, quarter_waves}
use Rattle.quarter_waves.specs.Known.{KnownWaves}

pub known_waves : KnownWaves
unfolding quarter_waves admitted divided within count round mul div le of_bits
known_waves = record {
  just_below = refl;
  rounded_up = refl;
  none = refl;
  most = refl;
  zero = refl;
  minus_zero = refl;
  index_low = refl;
  index_high = refl;
  thickness_low = refl;
  thickness_high = refl;
  wavelength_low = refl;
  wavelength_high = refl;
  index_nan = refl;
  thickness_nan = refl;
  wavelength_nan = refl;
}
