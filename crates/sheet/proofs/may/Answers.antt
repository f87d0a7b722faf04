-- `sheet::may` meets its contract. Assumes nothing.
use mathlib.Core.Path.{sym, ◌∙◌}
use Rattle.sheet.proofs.Standings.{open_one, open_two, beam, may_one, may_two, may_three, may_four, may_onto, may_none}
use Rattle.sheet.proofs.may.Goals as goal

pub returns-then-w-eq268435457 : goal.returns-then-w-eq268435457
returns-then-w-eq268435457 c = open_one _ _ c.in-AtOpen.is c.if-w-eq268435457.true

pub returns-then-is_surface : goal.returns-then-is_surface
returns-then-is_surface c = may_one _ _ _ _ _ c.in-Among.is (sym c.is_surface.ensures ∙ c.if-is_surface.true)

pub returns-then-is_layer : goal.returns-then-is_layer
returns-then-is_layer c = may_two _ _ _ _ _ c.in-Among.is (sym c.is_surface.ensures ∙ c.if-is_surface.false) (sym c.is_layer.ensures ∙ c.if-is_layer.true)

pub returns-then-is_tuning : goal.returns-then-is_tuning
returns-then-is_tuning c = may_three _ _ _ _ _ c.in-Among.is (sym c.is_surface.ensures ∙ c.if-is_surface.false) (sym c.is_layer.ensures ∙ c.if-is_layer.false) (sym c.is_tuning.ensures ∙ c.if-is_tuning.true)

pub returns-else-w-eq268435457 : goal.returns-else-w-eq268435457
returns-else-w-eq268435457 c = open_two _ _ c.in-AtOpen.is c.if-w-eq268435457.false

pub returns-in-AtBeam : goal.returns-in-AtBeam
returns-in-AtBeam c = beam _ _ _ c.in-AtBeam.is

pub returns-else-is_tuning : goal.returns-else-is_tuning
returns-else-is_tuning c = c.is_end.ensures ∙ may_four _ _ _ _ _ c.in-Among.is (sym c.is_surface.ensures ∙ c.if-is_surface.false) (sym c.is_layer.ensures ∙ c.if-is_layer.false) (sym c.is_tuning.ensures ∙ c.if-is_tuning.false)

pub returns-in-AtSurface : goal.returns-in-AtSurface
returns-in-AtSurface c = c.is_surface-in-AtSurface.ensures ∙ may_onto _ _ _ _ c.in-AtSurface.is

pub returns-in-Ended : goal.returns-in-Ended
returns-in-Ended c = may_none _ _ c.in-Ended.is
