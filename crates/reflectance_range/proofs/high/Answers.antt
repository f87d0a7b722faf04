-- `reflectance_range::high` meets its contract. Assumes nothing.
use Rattle.reflectance_range.specs.Range.{high}
use Rattle.reflectance_range.proofs.high.Goals as goal

pub returns : goal.returns
unfolding high
returns c = simp (c.max.ensures, c.upper-2.ensures, c.upper.ensures)
