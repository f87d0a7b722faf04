-- `thin_film_matrix::dot` meets its contract. Assumes nothing.
use Rattle.thin_film_matrix.specs.Matrix.{dot}
use borrow.Author.Rules.{rules}
use Rattle.thin_film_matrix.proofs.dot.Goals as goal

pub returns : goal.returns
unfolding dot
returns c = cc
