-- `math_trig::cos_of` meets its contract. Assumes nothing.
use borrow.Author.Rules.{rules}
use Rattle.math_trig.specs.Trig.{cos_of}
use Rattle.math_trig.proofs.cos_of.Goals as goal

pub returns-then-a : goal.returns-then-a
unfolding cos_of
returns-then-a c = simp (c.if-a.true, c.cos_at.ensures)

pub returns-else-a : goal.returns-else-a
unfolding cos_of
returns-else-a c = simp (c.if-a.false, c.cos_at-else-a.ensures)
