-- `math_waves::quick_step` meets its contract. Assumes nothing.
use mathlib.Core.Path.{ap}
use lib.Ieee.{Float}
use Rattle.ieee.specs.Operators.{◌⊖◌}
use Rattle.ieee.specs.Functions.{one}
use Rattle.math_waves.specs.Internal.{quick_step}
use Rattle.math_waves.proofs.Written.{written_none}
use Rattle.math_waves.proofs.Steps.{stepped_more}
use Rattle.math_waves.proofs.quick_step.Goals as goal

pub loop-i-init : goal.loop-i-init
loop-i-init c = written_none _ _

pub loop-i-preserved : goal.loop-i-preserved
unfolding quick_step
loop-i-preserved c =
    let l = c.loop-i in
    let a = c.args in
    stepped_more (quick_step a.a a.b a.y a.u) a.z.now l.p a.p.now l.i _ l.invariant (ap (λ (v : Float). one ⊖ v) c.quick.ensures)
