-- `polarization::phase_factor` meets its contract. Assumes nothing.
use Rattle.polarization.specs.Surface.{phase_factor}
use borrow.Author.Rules.{rules}
use Rattle.polarization.proofs.phase_factor.Goals as goal

pub returns : goal.returns
unfolding phase_factor
returns c = simp (c.new.ensures, c.sin_cos-p.ensures)
