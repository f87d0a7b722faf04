-- `ieee::finite_positive` meets its contract. Assumes nothing.
use mathlib.Core.Path.{sym, ◌∙◌}
use Rattle.ieee.specs.Functions.{finite_positive}
use borrow.Author.Rules.{rules}
use Rattle.ieee.proofs.finite_positive.Goals as goal

pub returns-then-is_finite : goal.returns-then-is_finite
unfolding finite_positive
returns-then-is_finite c = simp (sym c.is_finite.ensures ∙ c.if-is_finite.true)

pub returns-else-is_finite : goal.returns-else-is_finite
unfolding finite_positive
returns-else-is_finite c = c.if-is_finite.false ∙ simp (sym c.is_finite.ensures ∙ c.if-is_finite.false)
