-- `polarization_stokes::JonesVector::linear_45` meets its contract. Assumes nothing.
use Rattle.polarization_stokes.specs.Jones.{linear_45}
use borrow.Author.Rules.{rules}
use Rattle.polarization_stokes.proofs.JonesVector.linear_45.Goals as goal

pub returns : goal.returns
unfolding linear_45
returns c = simp (c.new.ensures, c.real-2.ensures, c.real.ensures)
