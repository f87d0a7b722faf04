-- `band::weight_passes` meets its contract. Assumes nothing.
use borrow.Author.Tests.{le-leb, lt-leb}
use Rattle.band.proofs.weight_passes.Goals as goal

pub returns-then-weight-ge1 : goal.returns-then-weight-ge1
returns-then-weight-ge1 c = simp (le-leb _ _ c.if-weight-ge1.true)

pub returns-else-weight-ge1 : goal.returns-else-weight-ge1
returns-else-weight-ge1 c = simp (lt-leb _ _ c.if-weight-ge1.false)
