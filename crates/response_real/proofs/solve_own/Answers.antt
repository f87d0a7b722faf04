-- `response_real::solve_own` meets its contract. Assumes nothing.
use Rattle.response_real.proofs.Whole.{known_stack}
use borrow.Author.Rules.{rules}
use Rattle.response_real.proofs.solve_own.Goals as goal

pub returns-then-quick : goal.returns-then-quick
returns-then-quick c = known_stack _ _ _ _ c.stack_of.ensures c.finish-quick.ensures c.if-quick.true
