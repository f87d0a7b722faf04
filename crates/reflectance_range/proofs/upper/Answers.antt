-- `reflectance_range::upper` meets its contract. Assumes nothing.
use Rattle.reflectance_range.specs.Range.{upper}
use Rattle.reflectance_range.proofs.upper.Goals as goal

pub returns : goal.returns
unfolding upper
returns c = simp c.head_on.ensures
