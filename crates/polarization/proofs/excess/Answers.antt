-- `polarization::excess` meets its contract. Assumes nothing.
use Rattle.polarization.specs.Surface.{excess}
use borrow.Author.Rules.{rules}
use Rattle.polarization.proofs.excess.Goals as goal

pub returns : goal.returns
unfolding excess
returns c = simp (c.sqrt.ensures, c.powi2.ensures)
