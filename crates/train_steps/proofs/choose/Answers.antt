-- `train_steps::choose` meets its contract. Assumes nothing.
use Rattle.train_steps.proofs.choose.Goals as goal

pub returns-then-reflected : goal.returns-then-reflected
returns-then-reflected c = simp c.if-reflected.true

pub returns-else-reflected : goal.returns-else-reflected
returns-else-reflected c = simp c.if-reflected.false
