-- `polarization_stokes::JonesVector::circular_left` meets its contract. Assumes nothing.
use Rattle.polarization_stokes.specs.Jones.{circular_left}
use borrow.Author.Rules.{rules}
use Rattle.polarization_stokes.proofs.JonesVector.circular_left.Goals as goal

pub returns : goal.returns
unfolding circular_left
returns c = simp (c.new-2.ensures, c.new.ensures, c.real.ensures)
