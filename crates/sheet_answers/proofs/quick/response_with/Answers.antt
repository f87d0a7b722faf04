-- `sheet_answers::quick::response_with` meets its contract. Assumes nothing.
use mathlib.Core.Path.{◌∙◌}
use Rattle.sheet_answers.proofs.Choice.{after, preset}
use Rattle.sheet_answers.proofs.quick.response_with.Goals as goal

pub returns-then-own_count-eq0 : goal.returns-then-own_count-eq0
returns-then-own_count-eq0 c = c.layers_response.ensures ∙ after _ _ _ _ _ c.own_count.ensures c.if-own_count-eq0.true

pub returns-else-own_count-eq0 : goal.returns-else-own_count-eq0
returns-else-own_count-eq0 c = c.solve_own.ensures ∙ preset _ _ _ _ _ c.own_count.ensures c.if-own_count-eq0.false
