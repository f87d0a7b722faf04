-- `polarization_stokes::JonesVector::circular_right` meets its contract. Assumes nothing.
use Rattle.polarization_stokes.specs.Jones.{circular_right}
use borrow.Author.Rules.{rules}
use Rattle.polarization_stokes.proofs.JonesVector.circular_right.Goals as goal

pub returns : goal.returns
unfolding circular_right
returns c = simp (c.new-2.ensures, c.new.ensures, c.real.ensures)
