-- `c_layers::front_of` meets its contract. Assumes nothing.
use Rattle.c_layers.proofs.front_of.Goals as goal

pub returns-then-reversed : goal.returns-then-reversed
returns-then-reversed c = simp c.if-reversed.true

pub returns-else-reversed : goal.returns-else-reversed
returns-else-reversed c = simp c.if-reversed.false
