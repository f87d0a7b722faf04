-- `math_atan::at_most_one` meets its contract. Assumes nothing.
use Rattle.math_atan.proofs.at_most_one.Goals as goal

pub returns-then-a : goal.returns-then-a
returns-then-a c = simp c.if-a.true

pub returns-else-a : goal.returns-else-a
returns-else-a c = simp c.if-a.false
