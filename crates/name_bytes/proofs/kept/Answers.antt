-- `name_bytes::kept` meets its contract. Assumes nothing.
use mathlib.Core.Path.{sym, ◌∙◌}
use Rattle.name_bytes.proofs.Scan.{left_more, left_stop, left_none}
use Rattle.name_bytes.proofs.kept.Goals as goal

pub returns-then-not-blank : goal.returns-then-not-blank
returns-then-not-blank c = left_stop _ _ c.loop-i-test.true c.loop-i.auto.i c.loop-i.invariant (sym c.blank.ensures ∙ c.if-not-blank.true)

pub loop-i-preserved : goal.loop-i-preserved
loop-i-preserved c = left_more c.args.s.now c.loop-i.i c.loop-i-test.true c.loop-i.auto.i c.loop-i.invariant (sym c.blank.ensures ∙ c.if-not-blank.false)

pub returns : goal.returns
returns c = left_none _ _ c.loop-i-test.false c.loop-i.invariant
