-- `train_steps::chosen_at` meets its contract. Assumes nothing.
use Rattle.train_steps.proofs.Picked.{chosen_is}
use Rattle.train_steps.proofs.chosen_at.Goals as goal

pub returns : goal.returns
returns c = chosen_is _ _ _ _ _ c.surface_at-surface.ensures _ c.powers_at-reply.ensures _ c.chosen_of.ensures
