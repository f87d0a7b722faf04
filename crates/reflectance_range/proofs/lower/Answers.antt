-- `reflectance_range::lower` meets its contract. Assumes nothing.
use Rattle.reflectance_range.specs.Range.{lower}
use Rattle.reflectance_range.proofs.lower.Goals as goal

pub returns : goal.returns
unfolding lower
returns c = simp c.head_on.ensures
