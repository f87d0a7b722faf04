-- `name_bytes::first_over` meets its contract. Assumes nothing.
use borrow.Author.Tests.{le-leb, lt-leb}
use Rattle.name_bytes.specs.Ascii.{ascii}
use Rattle.name_bytes.proofs.Scan.{prefix_more, prefix_stop, prefix_end}
use Rattle.name_bytes.proofs.first_over.Goals as goal

pub returns-then-s-i-gt127 : goal.returns-then-s-i-gt127
returns-then-s-i-gt127 c = prefix_stop ascii _ _ c.loop-i.invariant c.loop-i-test.true (lt-leb _ 127 c.if-s-i-gt127.true)

pub loop-i-preserved : goal.loop-i-preserved
loop-i-preserved c = prefix_more ascii _ _ c.loop-i.invariant c.loop-i-test.true (le-leb _ 127 c.if-s-i-gt127.false)

pub returns : goal.returns
returns c = prefix_end ascii _ _ c.loop-i.invariant c.loop-i-test.false c.loop-i.auto.i-end
