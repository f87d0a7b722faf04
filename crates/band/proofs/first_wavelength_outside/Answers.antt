-- `band::first_wavelength_outside` meets its contract. Assumes nothing.
use mathlib.Core.Path.{sym, ◌∙◌}
use native.Mathlib.Nat.{zero-add}
use Rattle.band.proofs.Lines.{further, stops, ends}
use Rattle.band.proofs.first_wavelength_outside.Goals as goal

pub loop-i-init : goal.loop-i-init
loop-i-init c = sym (zero-add _)

pub line_passes-requires : goal.line_passes-requires
line_passes-requires c = c.steady-always.ensures

pub returns-then-not-line_passes : goal.returns-then-not-line_passes
returns-then-not-line_passes c = stops _ _ _ c.loop-i.invariant _ c.loop-i-test.true (sym c.line_passes.ensures ∙ c.if-not-line_passes.true)

pub loop-i-preserved : goal.loop-i-preserved
loop-i-preserved c = further _ _ _ c.loop-i.invariant _ c.loop-i-test.true (sym c.line_passes.ensures ∙ c.if-not-line_passes.false)

pub returns : goal.returns
returns c = ends _ _ _ c.loop-i.invariant c.loop-i.auto.i-end c.loop-i-test.false
