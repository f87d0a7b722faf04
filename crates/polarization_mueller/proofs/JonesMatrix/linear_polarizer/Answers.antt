-- `polarization_mueller::JonesMatrix::linear_polarizer` meets its contract. Assumes nothing.
use Rattle.polarization_mueller.specs.Jones.{linear_polarizer}
use borrow.Author.Rules.{rules}
use Rattle.polarization_mueller.proofs.JonesMatrix.linear_polarizer.Goals as goal

pub returns : goal.returns
unfolding linear_polarizer
returns c = simp (c.real-ss.ensures, c.real-cs.ensures, c.real-cc.ensures, c.sin-s.ensures, c.cos-c.ensures)
