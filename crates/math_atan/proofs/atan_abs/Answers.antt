-- `math_atan::atan_abs` meets its contract. Assumes nothing.
use borrow.Author.Rules.{rules}
use Rattle.math_atan.specs.Atan.{atan_abs}
use Rattle.math_atan.proofs.atan_abs.Goals as goal

pub returns-then-a : goal.returns-then-a
unfolding atan_abs
returns-then-a c =
    simp (c.atan_poly-q.ensures, c.quarter_angle.ensures, c.at_most_one.ensures, c.if-a.true)

pub returns-else-a : goal.returns-else-a
unfolding atan_abs
returns-else-a c =
    simp (c.atan_poly-q.ensures, c.quarter_angle.ensures, c.at_most_one.ensures, c.if-a.false)
