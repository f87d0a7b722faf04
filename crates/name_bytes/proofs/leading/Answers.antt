-- `name_bytes::leading` meets its contract. Assumes nothing.
use mathlib.Core.Path.{sym, ◌∙◌}
use Rattle.name_bytes.specs.Trim.{blank}
use Rattle.name_bytes.proofs.Scan.{prefix_more, prefix_stop, prefix_end}
use Rattle.name_bytes.proofs.leading.Goals as goal

pub returns-then-not-blank : goal.returns-then-not-blank
returns-then-not-blank c = prefix_stop blank _ _ c.loop-i.invariant c.loop-i-test.true (sym c.blank.ensures ∙ c.if-not-blank.true)

pub loop-i-preserved : goal.loop-i-preserved
loop-i-preserved c = prefix_more blank _ _ c.loop-i.invariant c.loop-i-test.true (sym c.blank.ensures ∙ c.if-not-blank.false)

pub returns : goal.returns
returns c = prefix_end blank _ _ c.loop-i.invariant c.loop-i-test.false c.loop-i.auto.i-end
