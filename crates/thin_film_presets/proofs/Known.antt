-- The layers of presets, computed. Assumes nothing.
use mathlib.Core.Path.{refl}
use lib.Ieee.{mul, div, of_bits}
use Rattle.thin_film_solver.specs.Solve.{dielectric}
use Rattle.thin_film_presets.specs.Layers.{bragg_layers, broadband_layers}
use Rattle.thin_film_presets.specs.Known.{KnownPresets}

pub known_presets : KnownPresets
unfolding bragg_layers broadband_layers dielectric mul div of_bits
known_presets = record { broadband = refl; bragg = refl }
