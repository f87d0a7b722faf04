-- `sheet_answers::quick::coated_powers` meets its contract. Assumes nothing.
use mathlib.Core.Path.{◌≡◌, sym, ap, ◌∙◌}
use mathlib.Core.Bool.{Bool}
use mathlib.Core.List.{List}
use Rattle.refusal.specs.Outcome.{answer, map}
use Rattle.thin_film_solver.specs.declared.ThinFilmLayer.{ThinFilmLayer}
use Rattle.thin_film_solver.specs.declared.Incidence.{Incidence}
use Rattle.thin_film_solver.specs.Internal.{solved}
use Rattle.thin_film_layers.specs.declared.Prepared.{Prepared}
use Rattle.thin_film_layers.specs.declared.Prepared.TheVariants as P
use Rattle.thin_film_layers.specs.Evaluation.{ordered}
use Rattle.thin_film_layers.specs.Internal.{read_from}
use Rattle.thin_film_layers.proofs.Order.{answered}
use Rattle.surface.specs.declared.Powers.{Powers}
use Rattle.surface.specs.Answers.{coated_powers}
use Rattle.thin_film.proofs.Own.{evaluates}
use Rattle.sheet_answers.proofs.After.{many}
use Rattle.sheet_answers.proofs.quick.coated_powers.Goals as goal

layered : (p : Prepared) (reversed : Bool) (light : Incidence) (layers : List ThinFilmLayer) (r : Powers) → p ≡ P.Layers reversed light → r ≡ coated_powers (solved light (ordered reversed layers))
    → answer r ≡ map coated_powers (read_from p layers)
unfolding read_from
layered p reversed light layers r e f = ap answer f ∙ ap (λ (z : Prepared). map coated_powers (read_from z layers)) (sym e)

pub returns-in-Answered : goal.returns-in-Answered
returns-in-Answered c = c.answered.ensures ∙ ap (map coated_powers) (answered _ _ _ c.in-Answered.is ∙ evaluates _ _ _ _ _ _ _ (many _ _ _ _) _ c.prepare.ensures)

pub returns-in-Layers : goal.returns-in-Layers
returns-in-Layers c = layered _ _ _ _ _ c.in-Layers.is c.powers_with.ensures ∙ ap (map coated_powers) (evaluates _ _ _ _ _ _ _ (many _ _ _ _) _ c.prepare.ensures)
