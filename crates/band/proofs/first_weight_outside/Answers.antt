-- `band::first_weight_outside` meets its contract. Assumes nothing.
use mathlib.Core.Path.{sym, ◌∙◌}
use native.Mathlib.Nat.{zero-add}
use Rattle.band.specs.Band.{weight_passes}
use Rattle.band.proofs.Lines.{further, stops, ends}
use Rattle.band.proofs.first_weight_outside.Goals as goal

pub loop-i-init : goal.loop-i-init
loop-i-init c = sym (zero-add _)

pub returns-then-not-weight_passes : goal.returns-then-not-weight_passes
returns-then-not-weight_passes c = stops weight_passes _ _ c.loop-i.invariant 0 c.loop-i-test.true (sym c.weight_passes.ensures ∙ c.if-not-weight_passes.true)

pub loop-i-preserved : goal.loop-i-preserved
loop-i-preserved c = further weight_passes _ _ c.loop-i.invariant 0 c.loop-i-test.true (sym c.weight_passes.ensures ∙ c.if-not-weight_passes.false)

pub returns : goal.returns
returns c = ends weight_passes _ _ c.loop-i.invariant c.loop-i.auto.i-end c.loop-i-test.false
