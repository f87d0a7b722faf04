-- What passes the limits and what does not, and coatings by their codes, computed. Assumes nothing.
use mathlib.Core.Path.{refl}
use lib.Ieee as Ieee
use lib.Ieee.{of_bits}
use Rattle.ieee.specs.Functions.{abs, clamp}
use Rattle.whole_nearest.specs.Nearest.{nearest_whole}
use Rattle.math_trig.specs.Trig.{wrap, less_turns, reduce, first_line, fold, second_fold, series, sin_at, sin, cos_at, cos_of, cos}
use Rattle.thin_film_solver.specs.Solve.{dielectric}
use Rattle.thin_film_presets.specs.Layers.{bragg_layers, broadband_layers}
use Rattle.thin_film.specs.Coating.{mgf2_layers, mirror_layers, layers_of}
use Rattle.gate_limits.specs.Coating.{coded, interface}
use Rattle.gate_limits.specs.Limits.{within, beam_passes, layer_within, layers_within, angle_passes, surface_passes, metal_within, metals_within, absorption, absorptions, may_be_metal, metal_passes, passes}
use Rattle.gate_limits.specs.Known.{KnownCodes, KnownCoatings, KnownLimits, KnownMetals}

pub known_metals : KnownMetals
unfolding within metal_within metals_within absorption absorptions may_be_metal metal_passes Ieee.le Ieee.lt Ieee.eq Ieee.add Ieee.mul Ieee.div Ieee.round of_bits
known_metals = record {
  ends = refl;
  thicker = refl;
  index_below = refl;
  k_above = refl;
  highest = refl;
  index_above = refl;
  no_k = refl;
  k_below = refl;
  thinnest = refl;
  thickness_below = refl;
  thickest = refl;
  thickness_above = refl;
  minus_zero = refl;
  beside_zero = refl;
  none = refl;
  four = refl;
  five = refl;
  coated = refl;
  in_order = refl;
  turned = refl;
}

pub known_coatings : KnownCoatings
unfolding dielectric mgf2_layers mirror_layers layers_of bragg_layers broadband_layers coded interface within layer_within layers_within angle_passes surface_passes metal_within metals_within absorption absorptions may_be_metal metal_passes passes nearest_whole wrap less_turns reduce first_line fold second_fold series sin_at sin cos_at cos_of cos abs clamp Ieee.rem Ieee.lt Ieee.le Ieee.eq Ieee.add Ieee.sub Ieee.mul Ieee.div Ieee.neg Ieee.round Ieee.of_int Ieee.is_nan of_bits
known_coatings = record {
  bare = λ reflected. refl;
  ideal_ar = λ reflected. refl;
  mgf2 = λ reflected. refl;
  broadband_ar = λ reflected. refl;
  high_reflectance_mirror = λ reflected. refl;
  custom = λ reflected. refl;
  ideal_beamsplitter = λ reflected. refl;
  ideal_mirror = λ reflected. refl;
}

pub known_codes : KnownCodes
unfolding coded interface of_bits
known_codes = record {
  bare = λ design. refl;
  ideal_ar = λ design. refl;
  mgf2 = λ design. refl;
  broadband_ar = λ design. refl;
  high_reflectance_mirror = λ design. refl;
  custom = λ design. refl;
  ideal_beamsplitter = λ design. refl;
  ideal_mirror = λ design. refl;
  sheets_mgf2 = refl;
}

pub known_limits : KnownLimits
unfolding dielectric mgf2_layers mirror_layers layers_of bragg_layers broadband_layers coded interface within layer_within layers_within angle_passes surface_passes beam_passes metal_within metals_within absorption absorptions may_be_metal metal_passes passes nearest_whole wrap less_turns reduce first_line fold second_fold series sin_at sin cos_at cos_of cos abs clamp Ieee.rem Ieee.lt Ieee.le Ieee.eq Ieee.add Ieee.sub Ieee.mul Ieee.div Ieee.neg Ieee.round Ieee.of_int Ieee.is_nan of_bits
known_limits = record {
  shortest = refl;
  too_short = refl;
  longest = refl;
  too_long = refl;
  full = refl;
  s_above = refl;
  p_above = refl;
  s_below = refl;
  p_below = refl;
  indices = refl;
  incident_below = refl;
  incident_above = refl;
  substrate_below = refl;
  substrate_above = refl;
  slanting = refl;
  too_slanting = refl;
  refracted = refl;
  hardly_refracted = refl;
  infinite = refl;
  not_a_number = refl;
  thinnest = refl;
  thickest = refl;
  layer_below = refl;
  layer_above = refl;
  absorbs = refl;
  thinner = refl;
  thicker = refl;
}
