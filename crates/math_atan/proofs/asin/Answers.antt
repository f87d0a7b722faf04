-- `math_atan::asin` meets its contract. Assumes nothing.
use borrow.Author.Rules.{rules}
use Rattle.math_atan.specs.Atan.{asin}
use Rattle.math_atan.proofs.asin.Goals as goal

pub returns : goal.returns
unfolding asin
returns c = simp (c.atan.ensures, c.sqrt.ensures)
