-- `gate_limits::absorption` meets its contract. Assumes nothing.
use mathlib.Core.Path.{refl}
use Rattle.gate_limits.specs.Limits.{absorption}
use Rattle.gate_limits.proofs.absorption.Goals as goal

pub returns : goal.returns
unfolding absorption
returns c = refl
