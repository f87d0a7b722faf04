-- `polarization::indices_valid` meets its contract. Assumes nothing.
use mathlib.Core.Path.{sym, ◌∙◌}
use borrow.Author.Tests.{not-true, not-false}
use borrow.Author.Rules.{rules}
use Rattle.polarization.specs.Surface.{indices_valid}
use Rattle.polarization.proofs.indices_valid.Goals as goal

pub returns-then-not-finite_positive : goal.returns-then-not-finite_positive
unfolding indices_valid
returns-then-not-finite_positive c = simp (sym c.finite_positive.ensures ∙ c.if-not-finite_positive.true)

pub returns-then-finite_positive : goal.returns-then-finite_positive
unfolding indices_valid
returns-then-finite_positive c = c.is_finite.ensures ∙ simp (sym c.finite_positive.ensures ∙ c.if-not-finite_positive.false, sym c.finite_positive-2.ensures ∙ c.if-finite_positive.true)

pub returns-else-finite_positive : goal.returns-else-finite_positive
unfolding indices_valid
returns-else-finite_positive c = c.if-finite_positive.false ∙ simp (sym c.finite_positive.ensures ∙ c.if-not-finite_positive.false, sym c.finite_positive-2.ensures ∙ c.if-finite_positive.false)
