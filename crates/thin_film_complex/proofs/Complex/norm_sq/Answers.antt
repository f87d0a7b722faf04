-- `thin_film_complex::Complex::norm_sq` meets its contract. Assumes nothing.
use Rattle.thin_film_complex.specs.Complex.{norm_sq}
use Rattle.thin_film_complex.proofs.Complex.norm_sq.Goals as goal

pub returns : goal.returns
unfolding norm_sq
returns c = cc
