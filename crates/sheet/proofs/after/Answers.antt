-- `sheet::after` meets its contract. Assumes nothing.
use native.Mathlib.Omega.{arith}
use Rattle.sheet.proofs.Standings.{after_open, after_beam, under_64, one_may, after_three, after_seven, after_five, after_other, onto_64, after_onto, after_ended}
use Rattle.sheet.proofs.after.Goals as goal

pub overflow_add-result : goal.overflow_add-result
overflow_add-result c = omega (arith, under_64 _ _ _ _ _ c.in-Among.is c.requires c.if-w-eq3.true)

pub returns-then-w-eq3 : goal.returns-then-w-eq3
returns-then-w-eq3 c = after_three _ _ _ _ _ c.in-Among.is _ c.layers_after.ensures c.if-w-eq3.true

pub returns-then-w-eq7 : goal.returns-then-w-eq7
returns-then-w-eq7 c = after_seven _ _ _ _ _ c.in-Among.is c.if-w-eq7.true

pub returns-then-w-eq5 : goal.returns-then-w-eq5
returns-then-w-eq5 c = after_five _ _ _ _ _ c.in-Among.is c.if-w-eq5.true

pub overflow_sub-result : goal.overflow_sub-result
overflow_sub-result c = one_may _ _ _ _ _ c.in-Among.is c.requires c.if-w-eq3.false c.if-w-eq7.false c.if-w-eq5.false

pub overflow_add-result-in-AtSurface : goal.overflow_add-result-in-AtSurface
overflow_add-result-in-AtSurface c = omega (arith, onto_64 _ _ _ _ c.in-AtSurface.is c.requires)

pub returns-in-AtOpen : goal.returns-in-AtOpen
returns-in-AtOpen c = after_open _ _ c.in-AtOpen.is

pub returns-in-AtBeam : goal.returns-in-AtBeam
returns-in-AtBeam c = after_beam _ _ _ c.in-AtBeam.is

pub returns-else-w-eq5 : goal.returns-else-w-eq5
returns-else-w-eq5 c = after_other _ _ _ _ _ c.in-Among.is c.if-w-eq3.false c.if-w-eq7.false c.if-w-eq5.false

pub returns-in-AtSurface : goal.returns-in-AtSurface
returns-in-AtSurface c = after_onto _ _ _ _ c.in-AtSurface.is _ c.layers_after-in-AtSurface.ensures

pub returns-in-Ended : goal.returns-in-Ended
returns-in-Ended c = after_ended _ _ c.in-Ended.is
