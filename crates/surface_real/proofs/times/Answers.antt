-- `surface_real::times` meets its contract. Assumes nothing.
use Rattle.surface_real.specs.Internal.{times}
use Rattle.surface_real.proofs.times.Goals as goal

pub returns : goal.returns
unfolding times
returns c = cc
