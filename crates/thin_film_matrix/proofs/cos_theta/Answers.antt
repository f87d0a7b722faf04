-- `thin_film_matrix::cos_theta` meets its contract. Assumes nothing.
use Rattle.thin_film_matrix.specs.Film.{sin_theta, cos_theta}
use borrow.Author.Rules.{rules}
use Rattle.thin_film_matrix.proofs.cos_theta.Goals as goal

pub returns : goal.returns
unfolding sin_theta cos_theta
returns c = cc
