-- `surface_real::over` meets its contract. Assumes nothing.
use Rattle.surface_real.specs.Internal.{over}
use Rattle.surface_real.proofs.over.Goals as goal

pub returns-then-denom : goal.returns-then-denom
unfolding over
returns-then-denom c = simp c.if-denom.true

pub returns : goal.returns
unfolding over
returns c = simp c.if-denom.false
