-- `sheet_answers::evaluate_at` meets its contract. Assumes nothing.
use mathlib.Core.Path.{◌∙◌}
use Rattle.thin_film_layers.proofs.Order.{answered, solves}
use Rattle.thin_film.proofs.Own.{evaluates}
use Rattle.sheet_answers.proofs.After.{many}
use Rattle.sheet_answers.proofs.evaluate_at.Goals as goal

pub returns-in-Answered : goal.returns-in-Answered
returns-in-Answered c = answered _ _ _ c.in-Answered.is ∙ evaluates _ _ _ _ _ _ _ (many _ _ _ _) _ c.prepare.ensures

pub returns-in-Layers : goal.returns-in-Layers
returns-in-Layers c = solves _ _ _ _ _ c.in-Layers.is c.response_with.ensures ∙ evaluates _ _ _ _ _ _ _ (many _ _ _ _) _ c.prepare.ensures
