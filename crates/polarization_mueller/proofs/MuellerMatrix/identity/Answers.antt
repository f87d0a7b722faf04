-- `polarization_mueller::MuellerMatrix::identity` meets its contract. Assumes nothing.
use mathlib.Core.Path.{refl}
use Rattle.polarization_mueller.specs.Mueller.{identity}
use Rattle.polarization_mueller.proofs.MuellerMatrix.identity.Goals as goal

pub returns : goal.returns
unfolding identity
returns c = refl
