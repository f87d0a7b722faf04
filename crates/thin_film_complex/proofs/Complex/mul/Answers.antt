-- `thin_film_complex::Complex::mul` meets its contract. Assumes nothing.
use Rattle.thin_film_complex.specs.Complex.{mul}
use Rattle.thin_film_complex.proofs.Complex.mul.Goals as goal

pub returns : goal.returns
unfolding mul
returns c = cc
