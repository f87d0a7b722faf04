-- `polarization::refracted` meets its contract. Assumes nothing.
use Rattle.polarization.specs.Surface.{refracted}
use borrow.Author.Rules.{rules}
use Rattle.polarization.proofs.refracted.Goals as goal

pub returns : goal.returns
unfolding refracted
returns c = simp (c.real_diattenuator-transmission.ensures, c.real_diattenuator-reflection.ensures)
