-- `ieee_rem::pack` meets its contract. The loop's invariant: the pattern of m and k is that of r and j. Assumes nothing.
use mathlib.Core.Path.{sym, ◌∙◌}
use native.Mathlib.Omega.{arith}
use Rattle.ieee_rem.proofs.Steps.{stop, again, last}
use Rattle.ieee_rem.proofs.pack.Goals as goal

pub returns-then-m-ge-HIDDEN : goal.returns-then-m-ge-HIDDEN
returns-then-m-ge-HIDDEN c = sym (stop c.loop-k.m c.loop-k.k c.loop-k-test.true c.if-m-ge-HIDDEN.true) ∙ c.loop-k.invariant.1

pub loop-k-preserved : goal.loop-k-preserved
loop-k-preserved c = (
  omega arith,
  again c.loop-k.m c.loop-k.k c.loop-k-test.true c.if-m-ge-HIDDEN.false ∙ c.loop-k.invariant.1,
)

pub returns : goal.returns
returns c = last c.loop-k.m c.loop-k.k c.loop-k-test.false ∙ c.loop-k.invariant.1
