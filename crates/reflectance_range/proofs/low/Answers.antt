-- `reflectance_range::low` meets its contract. Assumes nothing.
use Rattle.reflectance_range.specs.Range.{low}
use Rattle.reflectance_range.proofs.low.Goals as goal

pub returns-then-n1_high-n2_low : goal.returns-then-n1_high-n2_low
unfolding low
returns-then-n1_high-n2_low c = simp (c.lower.ensures, c.if-n1_high-n2_low.true)

pub returns-then-n2_high-n1_low : goal.returns-then-n2_high-n1_low
unfolding low
returns-then-n2_high-n1_low c = simp (c.lower-then-n2_high-n1_low.ensures, c.if-n1_high-n2_low.false, c.if-n2_high-n1_low.true)

pub returns : goal.returns
unfolding low
returns c = simp (c.if-n1_high-n2_low.false, c.if-n2_high-n1_low.false)
