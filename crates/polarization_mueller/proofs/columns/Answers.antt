-- `polarization_mueller::columns` meets its contract. Assumes nothing.
use mathlib.Core.Path.{refl}
use Rattle.polarization_mueller.specs.Mueller.{columns}
use Rattle.polarization_mueller.proofs.columns.Goals as goal

pub returns : goal.returns
unfolding columns
returns c = refl
