-- `polarization_mueller::JonesMatrix::identity` meets its contract. Assumes nothing.
use Rattle.polarization_mueller.specs.Jones.{identity}
use borrow.Author.Rules.{rules}
use Rattle.polarization_mueller.proofs.JonesMatrix.identity.Goals as goal

pub returns : goal.returns
unfolding identity
returns c = simp (c.zero-zero.ensures, c.real-one.ensures)
