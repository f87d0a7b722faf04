-- `polarization_born_wolf::from_six` meets its contract. Assumes nothing.
use mathlib.Core.Path.{refl}
use Rattle.polarization_born_wolf.specs.Conversion.{from_six}
use Rattle.polarization_born_wolf.proofs.from_six.Goals as goal

pub returns : goal.returns
unfolding from_six
returns c = refl
