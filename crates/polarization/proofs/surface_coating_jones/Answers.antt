-- `polarization::surface_coating_jones` meets its contract. Assumes nothing.
use Rattle.polarization.specs.Surface.{surface_coating_jones}
use borrow.Author.Rules.{rules}
use Rattle.polarization.proofs.surface_coating_jones.Goals as goal

pub returns : goal.returns
unfolding surface_coating_jones
returns c = simp (c.diattenuator-transmission.ensures, c.diattenuator-reflection.ensures)
