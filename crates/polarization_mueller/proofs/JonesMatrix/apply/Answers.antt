-- `polarization_mueller::JonesMatrix::apply` meets its contract. Assumes nothing.
use Rattle.polarization_mueller.specs.Jones.{apply}
use borrow.Author.Rules.{rules}
use Rattle.polarization_mueller.proofs.JonesMatrix.apply.Goals as goal

pub returns : goal.returns
unfolding apply
returns c = simp (c.dot-2.ensures, c.dot.ensures)
