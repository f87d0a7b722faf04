-- The layers that `to_coating` gives a preset, and labels, computed. Assumes nothing.
use mathlib.Core.Path.{refl}
use lib.Ieee.{mul, div, of_bits}
use Rattle.thin_film_solver.specs.Solve.{dielectric}
use Rattle.thin_film_presets.specs.Layers.{bragg_layers}
use Rattle.thin_film.specs.Coating.{mgf2_layers, mirror_layers, layers_of}
use Rattle.thin_film.specs.Known.{KnownPresetCoatings}

pub known_preset_coatings : KnownPresetCoatings
unfolding layers_of mgf2_layers mirror_layers bragg_layers dielectric mul div of_bits
known_preset_coatings = record {
  mgf2 = refl;
  infrared = refl;
  mirror = refl;
  ideal_label = refl;
  mgf2_label = refl;
  broadband_label = refl;
  mirror_label = refl;
  custom_label = refl;
}
