-- `gate_limits::angle_within` meets its contract. Assumes nothing.
use mathlib.Core.Path.{sym}
use borrow.Author.Rules.{rules}
use Rattle.gate_limits.proofs.angle_within.Goals as goal

pub returns-then-snell-surface : goal.returns-then-snell-surface
returns-then-snell-surface c = simp (c.if-cos.true, c.if-snell-surface.true, sym c.presets_within.ensures)

pub returns-else-snell-surface : goal.returns-else-snell-surface
returns-else-snell-surface c = simp (c.if-cos.true, c.if-snell-surface.false)

pub returns-else-cos : goal.returns-else-cos
returns-else-cos c = simp c.if-cos.false
