-- `math_atan::turned` meets its contract. Assumes nothing.
use Rattle.math_atan.specs.Atan.{turned}
use Rattle.math_atan.proofs.turned.Goals as goal

pub returns-then-y : goal.returns-then-y
unfolding turned
returns-then-y c = simp (c.if-x.true, c.if-y.true)

pub returns-then-y-2 : goal.returns-then-y-2
unfolding turned
returns-then-y-2 c = simp (c.if-x.true, c.if-y.false, c.if-y-2.true)

pub returns-else-y-2 : goal.returns-else-y-2
unfolding turned
returns-else-y-2 c = simp (c.if-x.true, c.if-y.false, c.if-y-2.false)

pub returns-else-x : goal.returns-else-x
unfolding turned
returns-else-x c = simp c.if-x.false
