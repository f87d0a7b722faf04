-- `polarization_stokes::JonesVector::linear_vertical` meets its contract. Assumes nothing.
use Rattle.polarization_stokes.specs.Jones.{linear_vertical}
use borrow.Author.Rules.{rules}
use Rattle.polarization_stokes.proofs.JonesVector.linear_vertical.Goals as goal

pub returns : goal.returns
unfolding linear_vertical
returns c = simp (c.new.ensures, c.real.ensures, c.zero.ensures)
