-- `math_waves::step` meets its contract. Assumes nothing.
use mathlib.Core.Path.{refl}
use Rattle.math_waves.specs.Internal.{step}
use Rattle.math_waves.proofs.Written.{written_none}
use Rattle.math_waves.proofs.Steps.{stepped_more}
use Rattle.math_waves.proofs.step.Goals as goal

pub loop-i-init : goal.loop-i-init
loop-i-init c = written_none _ _

pub loop-i-preserved : goal.loop-i-preserved
unfolding step
loop-i-preserved c =
    let l = c.loop-i in
    let a = c.args in
    stepped_more (step a.c) a.z.now l.p a.p.now l.i _ l.invariant refl
