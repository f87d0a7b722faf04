-- `polarization_mueller::JonesMatrix::diattenuator` meets its contract. Assumes nothing.
use Rattle.polarization_mueller.specs.Jones.{diattenuator}
use borrow.Author.Rules.{rules}
use Rattle.polarization_mueller.proofs.JonesMatrix.diattenuator.Goals as goal

pub returns : goal.returns
unfolding diattenuator
returns c = simp c.zero-zero.ensures
