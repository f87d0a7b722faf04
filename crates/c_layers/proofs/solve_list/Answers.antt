-- `c_layers::solve_list` meets its contract. Assumes nothing.
use Rattle.response_real.proofs.Whole.{known_stack}
use Rattle.c_layers.proofs.solve_list.Goals as goal

pub returns-then-quick : goal.returns-then-quick
returns-then-quick c = known_stack _ _ _ _ c.stack_of.ensures c.finish-quick.ensures c.if-quick.true
