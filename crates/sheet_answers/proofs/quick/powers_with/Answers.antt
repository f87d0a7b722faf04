-- `sheet_answers::quick::powers_with` meets its contract. Assumes nothing.
use mathlib.Core.Path.{ap, ◌∙◌}
use Rattle.surface.specs.Answers.{coated_powers}
use Rattle.sheet_answers.proofs.Choice.{after, preset}
use Rattle.sheet_answers.proofs.quick.powers_with.Goals as goal

pub returns-then-own_count-eq0 : goal.returns-then-own_count-eq0
returns-then-own_count-eq0 c = c.layers_powers.ensures ∙ ap coated_powers (after _ _ _ _ _ c.own_count.ensures c.if-own_count-eq0.true)

pub returns-else-own_count-eq0 : goal.returns-else-own_count-eq0
returns-else-own_count-eq0 c = c.powers_of.ensures ∙ ap coated_powers (preset _ _ _ _ _ c.own_count.ensures c.if-own_count-eq0.false)
