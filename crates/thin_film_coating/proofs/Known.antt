-- The layer of `quarter_wave_ar`, computed. Assumes nothing.
use mathlib.Core.Path.{refl}
use lib.Ieee.{mul, div, of_bits}
use Rattle.math_root.specs.Root.{square_root}
use Rattle.thin_film_solver.specs.Solve.{dielectric}
use Rattle.thin_film_coating.specs.Coating.{quarter_wave_layers}
use Rattle.thin_film_coating.specs.Known.{KnownQuarterWave}

pub known_quarter_wave : KnownQuarterWave
unfolding quarter_wave_layers square_root dielectric mul div of_bits
known_quarter_wave = record { root = refl }
