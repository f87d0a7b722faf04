-- `polarization_stokes::JonesVector::to_stokes` meets its contract. Assumes nothing.
use Rattle.polarization_stokes.specs.Jones.{to_stokes}
use Rattle.thin_film_complex.specs.Complex.{norm_sq}
use borrow.Author.Rules.{rules}
use Rattle.polarization_stokes.proofs.JonesVector.to_stokes.Goals as goal

pub returns : goal.returns
unfolding to_stokes norm_sq
returns c = simp (c.norm_sq-i_y.ensures, c.norm_sq-i_x.ensures)
