-- `gate_limits::may_be_metal` meets its contract. Assumes nothing.
use borrow.Author.Tests.{eq-eqb, ne_eqb, le-leb, lt-leb}
use Rattle.gate_limits.specs.Limits.{may_be_metal}
use Rattle.gate_limits.proofs.may_be_metal.Goals as goal

pub returns-then-count-ge1 : goal.returns-then-count-ge1
unfolding may_be_metal
returns-then-count-ge1 c = simp (eq-eqb _ _ c.if-surface-eq5.true, c.if-surface.true, le-leb _ _ c.if-count-ge1.true)

pub returns-else-count-ge1 : goal.returns-else-count-ge1
unfolding may_be_metal
returns-else-count-ge1 c = simp (eq-eqb _ _ c.if-surface-eq5.true, c.if-surface.true, lt-leb _ _ c.if-count-ge1.false)

pub returns-else-surface : goal.returns-else-surface
unfolding may_be_metal
returns-else-surface c = simp (eq-eqb _ _ c.if-surface-eq5.true, c.if-surface.false)

pub returns-else-surface-eq5 : goal.returns-else-surface-eq5
unfolding may_be_metal
returns-else-surface-eq5 c = simp (ne_eqb _ _ c.if-surface-eq5.false)
