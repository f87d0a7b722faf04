-- `polarization_mueller::JonesMatrix::mul` meets its contract. Assumes nothing.
use Rattle.polarization_mueller.specs.Jones.{mul}
use borrow.Author.Rules.{rules}
use Rattle.polarization_mueller.proofs.JonesMatrix.mul.Goals as goal

pub returns : goal.returns
unfolding mul
returns c = simp (c.dot-4.ensures, c.dot-3.ensures, c.dot-2.ensures, c.dot.ensures)
