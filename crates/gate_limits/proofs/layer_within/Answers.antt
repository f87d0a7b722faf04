-- `gate_limits::layer_within` meets its contract. Assumes nothing.
use mathlib.Core.Path.{sym}
use Rattle.gate_limits.specs.Limits.{layer_within}
use borrow.Author.Rules.{rules}
use Rattle.gate_limits.proofs.layer_within.Goals as goal

pub returns-then-within-2 : goal.returns-then-within-2
unfolding layer_within
returns-then-within-2 c = simp (sym c.within.ensures, c.if-within.true, c.if-layer.true, sym c.within-then-layer.ensures, c.if-within-2.true)

pub returns-else-within-2 : goal.returns-else-within-2
unfolding layer_within
returns-else-within-2 c = simp (sym c.within.ensures, c.if-within.true, c.if-layer.true, sym c.within-then-layer.ensures, c.if-within-2.false)

pub returns-else-layer : goal.returns-else-layer
unfolding layer_within
returns-else-layer c = simp (sym c.within.ensures, c.if-within.true, c.if-layer.false)

pub returns-else-within : goal.returns-else-within
unfolding layer_within
returns-else-within c = simp (sym c.within.ensures, c.if-within.false)
