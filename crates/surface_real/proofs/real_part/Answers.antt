-- `surface_real::real_part` meets its contract. Assumes nothing.
use Rattle.surface_real.specs.Internal.{real_part}
use Rattle.surface_real.proofs.real_part.Goals as goal

pub returns-then-z : goal.returns-then-z
unfolding real_part
returns-then-z c = simp c.if-z.true

pub returns-else-z : goal.returns-else-z
unfolding real_part
returns-else-z c = simp c.if-z.false
