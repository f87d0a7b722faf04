-- `polarization::real_diattenuator` meets its contract. Assumes nothing.
use borrow.Author.Rules.{rules}
use Rattle.polarization.proofs.real_diattenuator.Goals as goal

pub returns : goal.returns
returns c = simp (c.diattenuator.ensures, c.real-2.ensures, c.real.ensures)
