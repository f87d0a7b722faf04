-- `gate_limits::metal_within` meets its contract. Assumes nothing.
use mathlib.Core.Path.{sym}
use borrow.Author.Rules.{rules}
use Rattle.gate_limits.specs.Limits.{metal_within}
use Rattle.gate_limits.proofs.metal_within.Goals as goal

pub returns-then-within-2 : goal.returns-then-within-2
unfolding metal_within
returns-then-within-2 c = simp (sym c.within.ensures, c.if-within.true, sym c.within-then-within.ensures, c.if-within-2.true, c.within-then-within-2.ensures)

pub returns-else-within-2 : goal.returns-else-within-2
unfolding metal_within
returns-else-within-2 c = simp (sym c.within.ensures, c.if-within.true, sym c.within-then-within.ensures, c.if-within-2.false)

pub returns-else-within : goal.returns-else-within
unfolding metal_within
returns-else-within c = simp (sym c.within.ensures, c.if-within.false)
