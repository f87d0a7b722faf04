-- `ieee_quotient::quick` meets its contract. Assumes nothing.
use mathlib.Core.Path.{refl}
use Rattle.ieee_quotient.specs.Quick.{quick}
use Rattle.ieee_quotient.proofs.quick.Goals as goal

pub returns : goal.returns
unfolding quick
returns c = refl
