-- `sheet_values::cauchy_index` meets its contract. Assumes nothing.
use mathlib.Core.Path.{refl}
use Rattle.sheet_values.specs.Values.{cauchy_index}
use Rattle.sheet_values.proofs.cauchy_index.Goals as goal

pub returns : goal.returns
unfolding cauchy_index
returns c = refl
