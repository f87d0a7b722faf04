-- `PowersAnswered` of specs/Finite.antt. Assumes nothing.
use Rattle.thin_film.specs.declared.SurfaceCoating.{SurfaceCoating}
use Rattle.std.specs.Prelude.{None, Option, Some}
use mathlib.Core.Path.{◌≡◌, refl, ap, ◌∙◌}
use mathlib.Core.Bool.{false}
use mathlib.Core.List.{List}
use lib.Ieee.{Float}
use Rattle.refusal.specs.Outcome.{Outcome, answer, refusal, map}
use Rattle.thin_film_solver.specs.declared.ThinFilmLayer.{ThinFilmLayer}
use Rattle.thin_film_solver.specs.declared.CoatingResponse.{CoatingResponse}
use Rattle.polarization.specs.declared.SurfaceJones.{SurfaceJones}
use Rattle.polarization.specs.Surface.{surface_fresnel_jones}
use Rattle.thin_film.specs.Evaluate.{evaluate_surface}
use Rattle.gate_limits.specs.declared.Surface.{Surface}
use Rattle.surface.specs.declared.Powers.{Powers}
use Rattle.surface.specs.declared.Answers.{Answers}
use Rattle.gate_limits.specs.Coating.{interface}
use Rattle.thin_film_solver.specs.Solve.{no_response}
use Rattle.surface.specs.Answers.{assembled, coated_answers, coated_powers, bare_powers, bare_answers, answers_of, powers_of}
use Rattle.surface.specs.Finite.{PowersAnswered}

-- the powers of an outcome; p where it refuses
abbrev or_else : Powers → Outcome Answers → Outcome Powers
or_else p (answer a) = answer a.powers
or_else p (refusal number place) = answer p

bare : (p : Powers) (o : Outcome SurfaceJones) → answer p ≡ or_else p (map (assembled false p no_response) o)
unfolding assembled
bare p (answer j) = refl
bare p (refusal number place) = refl

coated : (o : Outcome CoatingResponse) → map coated_powers o ≡ map (λ (a : Answers). a.powers) (map coated_answers o)
unfolding assembled coated_answers
coated (answer r) = refl
coated (refusal number place) = refl

by_interface : (i : Option SurfaceCoating) (wavelength : Float) (s : Surface) (layers : List ThinFilmLayer) (v : Answers) → answers_of i wavelength s layers ≡ answer v → powers_of i wavelength s layers ≡ answer v.powers
unfolding answers_of powers_of bare_answers
by_interface None wavelength s layers v e = bare (bare_powers s) (surface_fresnel_jones s.n_incident s.n_substrate s.angle_rad) ∙ ap (or_else (bare_powers s)) e
by_interface (Some coating) wavelength s layers v e = coated (evaluate_surface coating layers s.n_incident s.n_substrate s.angle_rad wavelength) ∙ ap (map (λ (a : Answers). a.powers)) e

pub powers_answered : PowersAnswered
powers_answered wavelength s = by_interface (interface s.coating) wavelength s
