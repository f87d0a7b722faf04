-- `thin_film_complex::Complex::add` meets its contract. Assumes nothing.
use Rattle.thin_film_complex.specs.Complex.{add}
use Rattle.thin_film_complex.proofs.Complex.add.Goals as goal

pub returns : goal.returns
unfolding add
returns c = cc
