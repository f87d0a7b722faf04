-- `surface_real::presets::powers_of` meets its contract. Assumes nothing.
use mathlib.Core.Path.{ap, ◌∙◌}
use Rattle.surface.specs.Answers.{coated_powers}
use Rattle.surface_real.proofs.Whole.{known_stack}
use borrow.Author.Rules.{rules}
use Rattle.surface_real.proofs.presets.powers_of.Goals as goal

pub returns-then-quick : goal.returns-then-quick
returns-then-quick c = known_stack _ _ _ _ c.stack_of.ensures c.finish-quick.ensures c.if-quick.true

pub returns-else-quick : goal.returns-else-quick
returns-else-quick c = c.coated_powers.ensures ∙ ap coated_powers c.solve_own.ensures
