-- `c_layers::evaluate_known` meets its contract. Assumes nothing.
use mathlib.Core.Path.{◌∙◌}
use Rattle.thin_film_layers.proofs.Order.{answered, solves}
use Rattle.thin_film.proofs.Own.{evaluates}
use Rattle.c_layers.proofs.Triples.{count}
use Rattle.c_layers.proofs.evaluate_known.Goals as goal

pub returns-in-Answered : goal.returns-in-Answered
returns-in-Answered c = answered _ _ _ c.in-Answered.is ∙ evaluates _ _ _ _ _ _ _ (count _) _ c.prepare.ensures

pub returns-in-Layers : goal.returns-in-Layers
returns-in-Layers c = solves _ _ _ _ _ c.in-Layers.is c.solve.ensures ∙ evaluates _ _ _ _ _ _ _ (count _) _ c.prepare.ensures
