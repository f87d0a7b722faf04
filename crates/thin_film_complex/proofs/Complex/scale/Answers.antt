-- `thin_film_complex::Complex::scale` meets its contract. Assumes nothing.
use Rattle.thin_film_complex.specs.Complex.{scale}
use Rattle.thin_film_complex.proofs.Complex.scale.Goals as goal

pub returns : goal.returns
unfolding scale
returns c = cc
