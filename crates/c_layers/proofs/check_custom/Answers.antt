-- `c_layers::check_custom` meets its contract. Assumes nothing.
use borrow.Author.Tests.{le-leb, lt-leb}
use Rattle.c_layers.proofs.check_custom.Goals as goal

pub returns-then-count-gt64 : goal.returns-then-count-gt64
returns-then-count-gt64 c = simp (c.in-Multilayer.is, lt-leb _ _ c.if-count-gt64.true)

pub returns-else-count-gt64 : goal.returns-else-count-gt64
returns-else-count-gt64 c = simp (c.in-Multilayer.is, le-leb _ _ c.if-count-gt64.false)
