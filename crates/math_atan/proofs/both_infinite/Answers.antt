-- `math_atan::both_infinite` meets its contract. Assumes nothing.
use borrow.Author.Rules.{rules}
use mathlib.Core.Path.{sym, ◌∙◌}
use Rattle.math_atan.proofs.both_infinite.Goals as goal

pub returns-then-is_infinite : goal.returns-then-is_infinite
returns-then-is_infinite c = simp (sym c.is_infinite.ensures ∙ c.if-is_infinite.true, c.is_infinite-then-is_infinite.ensures)

pub returns-else-is_infinite : goal.returns-else-is_infinite
returns-else-is_infinite c = simp (sym c.is_infinite.ensures ∙ c.if-is_infinite.false)
