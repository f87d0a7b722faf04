-- `c_scan::invalid_argument` meets its contract. Assumes nothing.
use mathlib.Core.Path.{sym, ◌∙◌}
use Rattle.c_scan.specs.Argument.{invalid_argument}
use Rattle.c_scan.proofs.invalid_argument.Goals as goal

pub returns-then-not-finite_positive : goal.returns-then-not-finite_positive
unfolding invalid_argument
returns-then-not-finite_positive c = simp (sym c.finite_positive.ensures ∙ c.if-not-finite_positive.true)

pub returns-then-not-finite_positive-2 : goal.returns-then-not-finite_positive-2
unfolding invalid_argument
returns-then-not-finite_positive-2 c = simp (sym c.finite_positive.ensures ∙ c.if-not-finite_positive.false, sym c.finite_positive-2.ensures ∙ c.if-not-finite_positive-2.true)

pub returns-then-not-is_finite : goal.returns-then-not-is_finite
unfolding invalid_argument
returns-then-not-is_finite c = simp (sym c.finite_positive.ensures ∙ c.if-not-finite_positive.false, sym c.finite_positive-2.ensures ∙ c.if-not-finite_positive-2.false, sym c.is_finite.ensures ∙ c.if-not-is_finite.true)

pub returns-then-not-finite_positive-3 : goal.returns-then-not-finite_positive-3
unfolding invalid_argument
returns-then-not-finite_positive-3 c = simp (sym c.finite_positive.ensures ∙ c.if-not-finite_positive.false, sym c.finite_positive-2.ensures ∙ c.if-not-finite_positive-2.false, sym c.is_finite.ensures ∙ c.if-not-is_finite.false, sym c.finite_positive-3.ensures ∙ c.if-not-finite_positive-3.true)

pub returns : goal.returns
unfolding invalid_argument
returns c = simp (sym c.finite_positive.ensures ∙ c.if-not-finite_positive.false, sym c.finite_positive-2.ensures ∙ c.if-not-finite_positive-2.false, sym c.is_finite.ensures ∙ c.if-not-is_finite.false, sym c.finite_positive-3.ensures ∙ c.if-not-finite_positive-3.false)
