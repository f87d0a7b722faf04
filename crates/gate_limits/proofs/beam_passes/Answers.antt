-- `gate_limits::beam_passes` meets its contract. Assumes nothing.
use mathlib.Core.Path.{sym}
use Rattle.gate_limits.specs.Limits.{beam_passes}
use borrow.Author.Rules.{rules}
use Rattle.gate_limits.proofs.beam_passes.Goals as goal

pub returns-then-within : goal.returns-then-within
unfolding beam_passes
returns-then-within c = simp (sym c.wavelength_passes.ensures, c.if-wavelength_passes.true, sym c.within.ensures, c.if-within.true, sym c.within-then-within.ensures)

pub returns-else-within : goal.returns-else-within
unfolding beam_passes
returns-else-within c = simp (sym c.wavelength_passes.ensures, c.if-wavelength_passes.true, sym c.within.ensures, c.if-within.false)

pub returns-else-wavelength_passes : goal.returns-else-wavelength_passes
unfolding beam_passes
returns-else-wavelength_passes c = simp (sym c.wavelength_passes.ensures, c.if-wavelength_passes.false)
