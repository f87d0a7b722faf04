-- `sheet_answers::quick::layers_response` meets its contract. Assumes nothing.
use Rattle.response_real.proofs.Whole.{known_stack}
use Rattle.sheet_answers.proofs.quick.layers_response.Goals as goal

pub returns-then-quick : goal.returns-then-quick
returns-then-quick c = known_stack _ _ _ _ c.stack_at-stack.ensures c.finish-quick.ensures c.if-quick.true
