-- `name_bytes::contains` meets its contract. Assumes nothing.
use mathlib.Core.Path.{sym, ◌∙◌}
use Rattle.name_bytes.proofs.Search.{contains_more, contains_here, contains_end}
use Rattle.name_bytes.proofs.contains.Goals as goal

pub returns-then-begins : goal.returns-then-begins
returns-then-begins c = sym (c.loop-k.invariant ∙ contains_here _ _ _ _ c.begins.ensures c.loop-k-test.true c.if-begins.true)

pub loop-k-preserved : goal.loop-k-preserved
loop-k-preserved c = c.loop-k.invariant ∙ contains_more _ _ _ _ c.begins.ensures c.loop-k-test.true c.if-begins.false

pub returns : goal.returns
returns c = sym (c.loop-k.invariant ∙ contains_end _ _ _ _ c.loop-k-test.false c.begins-2.ensures)
