-- `polarization_stokes::JonesVector::intensity` meets its contract. Assumes nothing.
use Rattle.polarization_stokes.specs.Jones.{intensity}
use borrow.Author.Rules.{rules}
use Rattle.polarization_stokes.proofs.JonesVector.intensity.Goals as goal

pub returns : goal.returns
unfolding intensity
returns c = simp (c.norm_sq-2.ensures, c.norm_sq.ensures)
