-- `polarization_stokes::JonesVector::linear_horizontal` meets its contract. Assumes nothing.
use Rattle.polarization_stokes.specs.Jones.{linear_horizontal}
use borrow.Author.Rules.{rules}
use Rattle.polarization_stokes.proofs.JonesVector.linear_horizontal.Goals as goal

pub returns : goal.returns
unfolding linear_horizontal
returns c = simp (c.new.ensures, c.zero.ensures, c.real.ensures)
