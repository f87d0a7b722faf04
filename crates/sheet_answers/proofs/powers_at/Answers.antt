-- `sheet_answers::powers_at` meets its contract. Assumes nothing.
use Rattle.std.specs.Prelude.{None, Option, Some}
use mathlib.Core.Path.{◌≡◌, sym, ap, ◌∙◌}
use mathlib.Core.List.{List}
use lib.Ieee.{Float}
use Rattle.refusal.specs.Outcome.{Outcome, answer, map}
use Rattle.thin_film_solver.specs.declared.ThinFilmLayer.{ThinFilmLayer}
use Rattle.thin_film.specs.declared.SurfaceCoating.{SurfaceCoating}
use Rattle.thin_film.specs.Evaluate.{evaluate_surface}
use Rattle.gate_limits.specs.declared.Surface.{Surface}
use Rattle.gate_limits.specs.Coating.{interface}
use Rattle.surface.specs.declared.Powers.{Powers}
use Rattle.surface.specs.Answers.{bare_powers, coated_powers, powers_of, powers}
use Rattle.sheet_answers.proofs.powers_at.Goals as goal

-- a surface and the interface that its code gives
module _ (wavelength : Float) (layers : List ThinFilmLayer) (s : Surface) (i : Option SurfaceCoating) (i-is : i ≡ interface s.coating) where
  told : (k : Option SurfaceCoating) → i ≡ k → powers_of k wavelength s layers ≡ powers wavelength s layers
  told k e = ap (λ (j : Option SurfaceCoating). powers_of j wavelength s layers) (sym e ∙ i-is)

  bare : i ≡ None → answer (bare_powers s) ≡ powers wavelength s layers
  unfolding powers_of
  bare e = told None e

  coated : (coating : SurfaceCoating) → i ≡ Some coating → (o : Outcome Powers) → o ≡ map coated_powers (evaluate_surface coating layers s.n_incident s.n_substrate s.angle_rad wavelength) → o ≡ powers wavelength s layers
  unfolding powers_of
  coated coating e o h = h ∙ told (Some coating) e

pub returns-in-None : goal.returns-in-None
returns-in-None c = ap answer c.bare_powers.ensures ∙ bare _ _ _ _ c.interface_of.ensures c.in-None.is

pub returns-in-Some : goal.returns-in-Some
returns-in-Some c = coated _ _ _ _ c.interface_of.ensures _ c.in-Some.is _ c.coated_powers.ensures
