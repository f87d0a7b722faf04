-- `math_waves::one_by_one` meets its contract. Assumes nothing.
use mathlib.Core.Path.{ap}
use Rattle.math_trig.specs.declared.SinCos.{SinCos}
use Rattle.math_waves.proofs.Written.{written_none, written_more}
use Rattle.math_waves.proofs.one_by_one.Goals as goal

pub loop-i-init : goal.loop-i-init
loop-i-init c = (written_none _ _, written_none _ _)

pub loop-i-preserved : goal.loop-i-preserved
loop-i-preserved c =
    let w = c.loop-i.invariant in
    (written_more _ _ _ _ _ w.0 (ap (λ (z : SinCos). z.sin) c.sin_cos-waves.ensures), written_more _ _ _ _ _ w.1 (ap (λ (z : SinCos). z.cos) c.sin_cos-waves.ensures))
