-- `band::lines_fit` meets its contract. Assumes nothing.
use borrow.Author.Tests.{le-leb, lt-leb}
use Rattle.band.proofs.lines_fit.Goals as goal

pub returns-then-n-le64 : goal.returns-then-n-le64
returns-then-n-le64 c = simp (le-leb _ _ c.if-n-ge1.true, le-leb _ _ c.if-n-le64.true)

pub returns-else-n-le64 : goal.returns-else-n-le64
returns-else-n-le64 c = simp (le-leb _ _ c.if-n-ge1.true, lt-leb _ _ c.if-n-le64.false)

pub returns-else-n-ge1 : goal.returns-else-n-ge1
returns-else-n-ge1 c = simp (lt-leb _ _ c.if-n-ge1.false)
