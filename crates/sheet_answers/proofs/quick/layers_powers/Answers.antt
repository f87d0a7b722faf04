-- `sheet_answers::quick::layers_powers` meets its contract. Assumes nothing.
use mathlib.Core.Path.{ap, ◌∙◌}
use Rattle.surface.specs.Answers.{coated_powers}
use Rattle.surface_real.proofs.Whole.{known_stack}
use Rattle.sheet_answers.proofs.quick.layers_powers.Goals as goal

pub returns-then-quick : goal.returns-then-quick
returns-then-quick c = known_stack _ _ _ _ c.stack_at-stack.ensures c.finish-quick.ensures c.if-quick.true

pub returns : goal.returns
returns c = c.coated_powers.ensures ∙ ap coated_powers c.solve.ensures
