-- `sheet_answers::answers_at` meets its contract. Assumes nothing.
use Rattle.std.specs.Prelude.{None, Option, Some}
use mathlib.Core.Path.{◌≡◌, sym, ap, ◌∙◌}
use mathlib.Core.List.{List}
use lib.Ieee.{Float}
use Rattle.std.proofs.lemmas.Result.{err_from_is_err_and}
use Rattle.refusal.specs.Outcome.{Outcome, map}
use Rattle.thin_film_solver.specs.declared.ThinFilmLayer.{ThinFilmLayer}
use Rattle.thin_film_solver.specs.declared.CoatingResponse.{CoatingResponse}
use Rattle.thin_film.specs.declared.SurfaceCoating.{SurfaceCoating}
use Rattle.thin_film.specs.Evaluate.{evaluate_surface}
use Rattle.gate_limits.specs.declared.Surface.{Surface}
use Rattle.gate_limits.specs.Coating.{interface}
use Rattle.surface.specs.Answers.{bare_answers, coated_answers, answers_of, answers}
use Rattle.sheet_answers.proofs.answers_at.Goals as goal

-- a surface and the interface that its code gives
module _ (wavelength : Float) (layers : List ThinFilmLayer) (s : Surface) (i : Option SurfaceCoating) (i-is : i ≡ interface s.coating) where
  told : (k : Option SurfaceCoating) → i ≡ k → answers_of k wavelength s layers ≡ answers wavelength s layers
  told k e = ap (λ (j : Option SurfaceCoating). answers_of j wavelength s layers) (sym e ∙ i-is)

  bare : i ≡ None → bare_answers s ≡ answers wavelength s layers
  unfolding answers_of
  bare e = told None e

  coated : (coating : SurfaceCoating) → i ≡ Some coating → (o : Outcome CoatingResponse) → o ≡ evaluate_surface coating layers s.n_incident s.n_substrate s.angle_rad wavelength
      → map coated_answers o ≡ answers wavelength s layers
  unfolding answers_of
  coated coating e o o-is = ap (map coated_answers) o-is ∙ told (Some coating) e

pub returns-in-None : goal.returns-in-None
returns-in-None c = c.bare_answers.ensures ∙ bare _ _ _ _ c.interface_of.ensures c.in-None.is

pub returns-in_err-response-in-Some : goal.returns-in_err-response-in-Some
returns-in_err-response-in-Some c =
    let p = err_from_is_err_and c.from_residual.result c.from_residual.ensures.1 in
    rw (p.1, p.2) (coated _ _ _ _ c.interface_of.ensures _ c.in-Some.is _ c.in_err-response-in-Some.ensures)

pub returns-in_ok-response-in-Some : goal.returns-in_ok-response-in-Some
returns-in_ok-response-in-Some c = ap Outcome.answer c.coated_answers.ensures ∙ coated _ _ _ _ c.interface_of.ensures _ c.in-Some.is _ c.in_ok-response-in-Some.ensures
