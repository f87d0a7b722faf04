-- `thin_film_matrix::mat_mul_2x2` meets its contract. Assumes nothing.
use Rattle.thin_film_matrix.specs.Matrix.{mat_mul}
use borrow.Author.Rules.{rules}
use Rattle.thin_film_matrix.proofs.Entries.{four}
use Rattle.thin_film_matrix.proofs.mat_mul_2x2.Goals as goal

pub returns : goal.returns
unfolding mat_mul
returns c =
    four c.dot.ensures c.dot-2.ensures c.dot-3.ensures c.dot-4.ensures
