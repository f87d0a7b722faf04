-- `band::first_weight_outside` meets its contract. Assumes nothing.
use mathlib.Core.Path.{◌≡◌}
use Prim.Native.Nat.{◌+◌}
use lib.ListN.{drop}
use Rattle.band.specs.Band.{weight_passes}
use Rattle.band.specs.Internal.{first_false}
use Rattle.band.proofs.first_weight_outside.Given as goal

abbrev pub invariant-loop-i : goal.invariant-loop-i
invariant-loop-i l = first_false weight_passes l.weights ≡ l.i + first_false weight_passes (drop l.i l.weights)
