-- `math_atan::atan_poly` meets its contract. Assumes nothing.
use borrow.Author.Rules.{rules}
use Rattle.math_atan.specs.Atan.{atan_poly}
use Rattle.math_atan.proofs.atan_poly.Goals as goal

pub returns : goal.returns
unfolding atan_poly
returns c = simp c.atan_series.ensures
