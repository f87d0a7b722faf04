-- `reflectance_range::index_valid` meets its contract. Assumes nothing.
use Rattle.reflectance_range.specs.Range.{index_valid}
use Rattle.reflectance_range.proofs.index_valid.Goals as goal

pub returns-then-n : goal.returns-then-n
unfolding index_valid
returns-then-n c = simp c.if-n.true

pub returns : goal.returns
unfolding index_valid
returns c = simp c.if-n.false
