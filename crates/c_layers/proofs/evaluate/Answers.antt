-- `c_layers::evaluate` meets its contract. Assumes nothing.
use mathlib.Core.Path.{◌∙◌}
use Rattle.c_layers.proofs.Codes.{ragged, unknown, known}
use Rattle.c_layers.proofs.evaluate.Goals as goal

pub returns-then-flat-ne0 : goal.returns-then-flat-ne0
returns-then-flat-ne0 c = ragged _ _ _ _ _ _ _ c.if-flat-ne0.true

pub returns-in-Some : goal.returns-in-Some
returns-in-Some c = c.evaluate_known.ensures ∙ known _ _ _ _ _ _ _ c.if-flat-ne0.false _ c.coating_of.ensures _ c.in-Some.is

pub returns-in-None : goal.returns-in-None
returns-in-None c = unknown _ _ _ _ _ _ _ c.if-flat-ne0.false _ c.coating_of.ensures c.in-None.is
