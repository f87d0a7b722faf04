-- `thin_film_complex::Complex::real` meets its contract. Assumes nothing.
use Rattle.thin_film_complex.specs.Complex.{real}
use Rattle.thin_film_complex.proofs.Complex.real.Goals as goal

pub returns : goal.returns
unfolding real
returns c = cc
