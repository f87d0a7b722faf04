-- `thin_film_complex::Complex::norm` meets its contract. Assumes nothing.
use Rattle.thin_film_complex.specs.Complex.{norm}
use borrow.Author.Rules.{rules}
use Rattle.thin_film_complex.proofs.Complex.norm.Goals as goal

pub returns : goal.returns
unfolding norm
returns c = cc
