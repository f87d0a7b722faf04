-- `response_real::no_zero` meets its contract. Assumes nothing.
use Rattle.response_real.specs.Internal.{no_zero}
use Rattle.response_real.proofs.no_zero.Goals as goal

pub returns-then-z : goal.returns-then-z
unfolding no_zero
returns-then-z c = simp c.if-z.true

pub returns-else-z : goal.returns-else-z
unfolding no_zero
returns-else-z c = simp c.if-z.false
