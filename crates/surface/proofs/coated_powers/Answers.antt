-- `surface::coated_powers` meets its contract. Assumes nothing.
use mathlib.Core.Path.{refl}
use Rattle.surface.specs.Answers.{coated_powers}
use Rattle.surface.proofs.coated_powers.Goals as goal

pub returns : goal.returns
unfolding coated_powers
returns c = refl
