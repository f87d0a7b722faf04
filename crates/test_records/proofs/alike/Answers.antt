-- `test_records::alike` meets its contract. Assumes nothing.
use mathlib.Core.Path.{refl, ◌∙◌}
use Rattle.test_records.proofs.Words.{goes_on, differs, counted}
use Rattle.test_records.proofs.alike.Goals as goal

pub loop-i-init : goal.loop-i-init
loop-i-init c = refl

pub returns-then-word-word_at : goal.returns-then-word-word_at
returns-then-word-word_at c = differs _ _ _ c.loop-i-test.true _ c.word_at.ensures c.if-word-word_at.true ∙ c.loop-i.invariant

pub loop-i-preserved : goal.loop-i-preserved
loop-i-preserved c = goes_on _ _ _ c.loop-i-test.true _ c.word_at.ensures c.if-word-word_at.false ∙ c.loop-i.invariant

pub returns : goal.returns
returns c = counted _ _ _ c.loop-i-test.false c.loop-i.auto.i-end ∙ c.loop-i.invariant
