-- The starred known answers, each computed in the crate that it lives in. Assumes nothing.
use Rattle.math_root.proofs.Known.{sqrt_known}
use Rattle.thin_film_complex.proofs.Known as complex
use Rattle.thin_film.proofs.Known as thin-film
use Rattle.fresnel.proofs.Known as fresnel
use Rattle.polarization_stokes.proofs.Known as stokes
use Rattle.name_coating.proofs.Known as coating_name
use Rattle.known_answers.specs.Known.{KnownAnswers}

pub known_answers : KnownAnswers
known_answers = record {
  smallest_root = sqrt_known.smallest;
  root_of_minus_zero = sqrt_known.minus_zero;
  quotient = complex.above_guard;
  guarded_quotient = complex.below_guard;
  no_layers = thin-film.no_layers;
  straight = fresnel.dielectric_straight;
  grazing = fresnel.dielectric_grazing;
  schlick = fresnel.schlick_grazing;
  stokes = stokes.stokes_of_one_i;
  degree = stokes.dark_degree;
  linear_degree = stokes.dark_linear_degree;
  circular_degree = stokes.dark_circular_degree;
  mgf2 = coating_name.mgf2_in_blanks;
  custom = coating_name.custom_is_ideal;
  no_name = coating_name.none_is_none;
}
