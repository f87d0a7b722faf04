-- `surface_real::films::quotients` meets its contract. Assumes nothing.
use native.Mathlib.Omega.{arith}
use Rattle.math_waves.proofs.Written.{written_none, written_more, written_all}
use Rattle.surface_real.proofs.films.quotients.Goals as goal

pub loop-i-init : goal.loop-i-init
loop-i-init c = (written_none _ _, written_none _ _)

pub loop-i-preserved : goal.loop-i-preserved
loop-i-preserved c =
    let w = c.loop-i.invariant in
    (written_more _ _ _ _ _ w.0 c.over.ensures, written_more _ _ _ _ _ w.1 c.over-in-loop-i.ensures)

pub returns : goal.returns
returns c = (written_all _ _ _ _ _ (omega arith) c.loop-i.invariant.0, written_all _ _ _ _ _ (omega arith) c.loop-i.invariant.1)
