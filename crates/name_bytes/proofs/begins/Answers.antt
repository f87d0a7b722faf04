-- `name_bytes::begins` meets its contract. Assumes nothing.
use mathlib.Core.Path.{sym, ◌∙◌}
use Rattle.name_bytes.proofs.Search.{begins_more, begins_differs, begins_short, begins_end}
use Rattle.name_bytes.proofs.begins.Goals as goal

pub returns-then-i-s : goal.returns-then-i-s
returns-then-i-s c = sym (c.loop-i.invariant ∙ begins_short _ _ _ c.if-i-s.true c.loop-i-test.true)

pub returns-then-s-i : goal.returns-then-s-i
returns-then-s-i c = sym (c.loop-i.invariant ∙ begins_differs _ _ _ c.if-i-s.false c.loop-i-test.true c.if-s-i.true)

pub loop-i-preserved : goal.loop-i-preserved
loop-i-preserved c = c.loop-i.invariant ∙ begins_more _ _ _ c.if-i-s.false c.loop-i-test.true c.if-s-i.false

pub returns : goal.returns
returns c = sym (c.loop-i.invariant ∙ begins_end _ _ _ c.loop-i-test.false)
