-- `polarization::totally_reflected` meets its contract. Assumes nothing.
use Rattle.polarization.specs.Surface.{rs_phase, rp_phase, totally_reflected}
use borrow.Author.Rules.{rules}
use Rattle.polarization.proofs.totally_reflected.Goals as goal

pub returns : goal.returns
unfolding rs_phase rp_phase totally_reflected
returns c = simp (c.diattenuator-transmission.ensures, c.zero-2.ensures, c.zero.ensures, c.diattenuator-reflection.ensures, c.phase_factor-2.ensures, c.phase_factor.ensures, c.atan-2.ensures, c.powi2.ensures, c.atan.ensures, c.excess-excess.ensures)
