-- 01 section 7: a surface's answers, over the definitions that the contracts of the crates below cite. Definitions only.
use Rattle.thin_film.specs.declared.SurfaceCoating.{SurfaceCoating}
use Rattle.std.specs.Prelude.{Bool, true, false, cond, List, eqb, Float, None, Option, Some}
use Rattle.ieee.specs.Operators.{◌⊖◌}
use Rattle.ieee.specs.Functions.{zero_f, one}
use Rattle.math_trig.specs.Trig.{cos}
use Rattle.thin_film_complex.specs.Complex.{zero}
use Rattle.refusal.specs.Outcome.{Outcome, answer, map}
use Rattle.thin_film_solver.specs.declared.ThinFilmLayer.{ThinFilmLayer}
use Rattle.thin_film_solver.specs.declared.CoatingResponse.{CoatingResponse}
use Rattle.thin_film_solver.specs.Solve.{no_response}
use Rattle.thin_film.specs.Evaluate.{evaluate_surface}
use Rattle.fresnel.specs.Fresnel.{fresnel_dielectric}
use Rattle.polarization.specs.declared.SurfaceJones.{SurfaceJones}
use Rattle.polarization_mueller.specs.Jones.{diattenuator}
use Rattle.polarization_mueller.specs.Mueller.{to_mueller}
use Rattle.polarization.specs.Surface.{surface_coating_jones, surface_fresnel_jones}
use Rattle.gate_limits.specs.declared.Surface.{Surface}
use Rattle.surface.specs.declared.Powers.{Powers}
use Rattle.surface.specs.declared.Answers.{Answers}
use Rattle.gate_limits.specs.Coating.{interface}

-- ---- with the Jones matrices of section 6 and their Mueller matrices
unfoldable pub assembled : Bool → Powers → CoatingResponse → SurfaceJones → Answers
assembled coated powers response jones = record {
  coated = coated;
  powers = powers;
  response = response;
  reflection = jones.reflection;
  transmission = jones.transmission;
  reflection_mueller = to_mueller jones.reflection;
  transmission_mueller = to_mueller jones.transmission;
}

-- ---- the response of section 4
unfoldable pub coated_powers : CoatingResponse → Powers
coated_powers r = record {
  reflectance_s = r.reflectance_s;
  reflectance_p = r.reflectance_p;
  transmittance_s = r.transmittance_s;
  transmittance_p = r.transmittance_p;
}

unfoldable pub coated_answers : CoatingResponse → Answers
coated_answers r = assembled true (coated_powers r) r (surface_coating_jones r)

-- ---- or the powers of section 5 if bare: fresnel_dielectric on cos(angle), then T_s = 1 - R_s, T_p = 1 - R_p
unfoldable pub bare_powers : Surface → Powers
bare_powers s =
    let r = fresnel_dielectric (cos s.angle_rad) s.n_incident s.n_substrate in
    record { reflectance_s = r.rs; reflectance_p = r.rp; transmittance_s = one ⊖ r.rs; transmittance_p = one ⊖ r.rp }

-- a bare surface has no response
unfoldable pub bare_answers : Surface → Outcome Answers
bare_answers s =
    map (assembled false (bare_powers s) no_response) (surface_fresnel_jones s.n_incident s.n_substrate s.angle_rad)

-- zero throughout
abbrev pub no_answers : Answers
no_answers =
    let dark = diattenuator zero zero in
    let z = zero_f in
    let none : Powers = record { reflectance_s = z; reflectance_p = z; transmittance_s = z; transmittance_p = z } in
    assembled false none no_response (record { reflection = dark; transmission = dark })

-- ---- a surface's answers, for its words, its layers and a wavelength
unfoldable pub answers_of : Option SurfaceCoating → Float → Surface → List ThinFilmLayer → Outcome Answers
answers_of None wavelength s layers = bare_answers s
answers_of (Some coating) wavelength s layers =
    map coated_answers (evaluate_surface coating layers s.n_incident s.n_substrate s.angle_rad wavelength)

abbrev pub answers : Float → Surface → List ThinFilmLayer → Outcome Answers
answers wavelength s layers = answers_of (interface s.coating) wavelength s layers

-- ---- its powers alone; those of section 5 refuse nothing
unfoldable pub powers_of : Option SurfaceCoating → Float → Surface → List ThinFilmLayer → Outcome Powers
powers_of None wavelength s layers = answer (bare_powers s)
powers_of (Some coating) wavelength s layers =
    map coated_powers (evaluate_surface coating layers s.n_incident s.n_substrate s.angle_rad wavelength)

abbrev pub powers : Float → Surface → List ThinFilmLayer → Outcome Powers
powers wavelength s layers = powers_of (interface s.coating) wavelength s layers
