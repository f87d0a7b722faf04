-- `thin_film_matrix::exp_of` meets its contract. Assumes nothing.
use mathlib.Core.Path.{sym}
use Rattle.ieee.proofs.Signs.{of_true}
use Rattle.ieee.proofs.Range.FromZero.{equals_zero}
use Rattle.math_exp.proofs.ExpBounds.{exp_zero}
use borrow.Author.Rules.{rules}
use Rattle.thin_film_matrix.proofs.exp_of.Goals as goal

pub returns-then-x : goal.returns-then-x
returns-then-x c = sym (exp_zero _ (equals_zero _ (of_true _ c.if-x.true)))

pub returns-else-x : goal.returns-else-x
returns-else-x c = c.exp.ensures
