-- `thin_film_complex::Complex::arg` meets its contract. Assumes nothing.
use Rattle.thin_film_complex.specs.Complex.{arg}
use borrow.Author.Rules.{rules}
use Rattle.thin_film_complex.proofs.Complex.arg.Goals as goal

pub returns : goal.returns
unfolding arg
returns c = cc
