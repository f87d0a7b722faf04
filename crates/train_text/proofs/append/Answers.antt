-- `train_text::append` meets its contract. Assumes nothing.
use Rattle.train_text.proofs.Pages.{begun, further, appended}
use Rattle.train_text.proofs.append.Goals as goal

pub loop-i-init : goal.loop-i-init
loop-i-init c = begun _ _ _

pub loop-i-preserved : goal.loop-i-preserved
loop-i-preserved c = further _ _ _ c.requires _ _ _ c.loop-i.invariant c.loop-i-test.true

pub shape_of-page : goal.shape_of-page
shape_of-page c = c.loop-i.invariant.long

pub returns : goal.returns
returns c = appended _ _ _ c.requires _ _ c.loop-i.invariant c.loop-i-test.false
