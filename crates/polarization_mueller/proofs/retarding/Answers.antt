-- `polarization_mueller::retarding` meets its contract. Assumes nothing.
use Rattle.polarization_mueller.specs.Jones.{retarding}
use borrow.Author.Rules.{rules}
use Rattle.polarization_mueller.proofs.retarding.Goals as goal

pub returns : goal.returns
unfolding retarding
returns c = simp (c.add-m11.ensures, c.scale-4.ensures, c.scale-3.ensures, c.scale-m01.ensures, c.sub.ensures, c.add-m00.ensures, c.scale-2.ensures, c.scale.ensures)
