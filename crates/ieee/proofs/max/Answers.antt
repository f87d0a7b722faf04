-- `ieee::max` meets its contract. Assumes nothing.
use Rattle.ieee.specs.Functions.{max}
use Rattle.ieee.proofs.max.Goals as goal

pub returns-then-a-b : goal.returns-then-a-b
unfolding max
returns-then-a-b c = simp c.if-a-b.true

pub returns-else-a-b : goal.returns-else-a-b
unfolding max
returns-else-a-b c = simp c.if-a-b.false
