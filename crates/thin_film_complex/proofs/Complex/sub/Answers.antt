-- `thin_film_complex::Complex::sub` meets its contract. Assumes nothing.
use Rattle.thin_film_complex.specs.Complex.{sub}
use Rattle.thin_film_complex.proofs.Complex.sub.Goals as goal

pub returns : goal.returns
unfolding sub
returns c = cc
