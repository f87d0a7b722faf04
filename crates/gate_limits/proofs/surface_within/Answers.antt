-- `gate_limits::surface_within` meets its contract. Assumes nothing.
use mathlib.Core.Path.{sym}
use borrow.Author.Rules.{rules}
use Rattle.gate_limits.proofs.surface_within.Goals as goal

pub returns-then-is_finite : goal.returns-then-is_finite
returns-then-is_finite c = simp (sym c.within.ensures, c.if-within.true, sym c.within-then-within.ensures, c.if-within-2.true, sym c.is_finite.ensures, c.if-is_finite.true, sym c.angle_within.ensures)

pub returns-else-is_finite : goal.returns-else-is_finite
returns-else-is_finite c = simp (sym c.within.ensures, c.if-within.true, sym c.within-then-within.ensures, c.if-within-2.true, sym c.is_finite.ensures, c.if-is_finite.false)

pub returns-else-within-2 : goal.returns-else-within-2
returns-else-within-2 c = simp (sym c.within.ensures, c.if-within.true, sym c.within-then-within.ensures, c.if-within-2.false)

pub returns-else-within : goal.returns-else-within
returns-else-within c = simp (sym c.within.ensures, c.if-within.false)
