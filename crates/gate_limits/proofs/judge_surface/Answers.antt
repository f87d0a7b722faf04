-- `gate_limits::judge_surface` meets its contract. Assumes nothing.
use borrow.Author.Rules.{rules}
use Rattle.gate_limits.proofs.judge_surface.Goals as goal

pub returns : goal.returns
returns c = c.judge_with.ensures c.sin_cos.ensures
