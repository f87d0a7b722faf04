-- `math_atan::zero_or_infinite` meets its contract. Assumes nothing.
use borrow.Author.Rules.{rules}
use mathlib.Core.Path.{sym, ◌∙◌}
use Rattle.math_atan.proofs.Tests.{zero_test}
use Rattle.math_atan.proofs.zero_or_infinite.Goals as goal

pub returns-then-a : goal.returns-then-a
returns-then-a c = simp (sym (zero_test _) ∙ c.if-a.true)

pub returns-else-a : goal.returns-else-a
returns-else-a c = simp (sym (zero_test _) ∙ c.if-a.false, c.is_infinite.ensures)
