-- `polarization_mueller::row_times` meets its contract. Assumes nothing.
use mathlib.Core.Path.{refl}
use Rattle.polarization_mueller.specs.Mueller.{row_times}
use Rattle.polarization_mueller.proofs.row_times.Goals as goal

pub returns : goal.returns
unfolding row_times
returns c = refl
