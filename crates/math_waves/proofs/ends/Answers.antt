-- `math_waves::ends` meets its contract. Assumes nothing.
use mathlib.Core.Path.{ap, ◌∙◌}
use Rattle.math_waves.specs.Internal.{turned, at, sin_end, cos_end}
use Rattle.math_waves.proofs.Written.{written_none, written_more}
use Rattle.math_waves.proofs.ends.Goals as goal

pub loop-i-init : goal.loop-i-init
loop-i-init c = (written_none _ _, written_none _ _)

pub loop-i-preserved : goal.loop-i-preserved
unfolding sin_end cos_end
loop-i-preserved c =
    let w = c.loop-i.invariant in
    let a = c.args in (
      written_more (λ j. sin_end (at a.a.now j) (at a.s.now j)) _ _ _ _ w.0 c.to_one.ensures,
      written_more (λ j. cos_end (at a.r.now j) (at a.c.now j)) _ _ _ _ w.1 (c.turned.ensures ∙ ap (turned (at a.r.now c.loop-i.i)) c.to_one-in-loop-i.ensures),
    )
