-- `test_records::write` meets its contract. Assumes nothing.
use mathlib.Core.Path.{sym, ◌∙◌}
use native.Mathlib.Omega.{arith}
use Rattle.test_records.proofs.Words.{begun, onward, full, done}
use Rattle.test_records.proofs.write.Goals as goal

pub loop-i-init : goal.loop-i-init
loop-i-init c = begun _ _ _

pub returns-then-i-room : goal.returns-then-i-room
returns-then-i-room c = sym (full _ _ _ (omega arith)) ∙ c.loop-i.invariant

pub loop-i-preserved : goal.loop-i-preserved
loop-i-preserved c = onward _ _ _ _ _ _ (omega arith) c.loop-i-test.true c.bits.ensures ∙ c.loop-i.invariant

pub returns : goal.returns
returns c = sym (done _ _ _ _ c.loop-i-test.false) ∙ c.loop-i.invariant
