-- `sheet_index::put` meets its contract. Assumes nothing.
use mathlib.Core.Path.{◌≡◌}
use mathlib.Core.List.{List}
use Prim.Native.Nat.{ℕ, ◌-◌}
use lib.ListN.{get_or}
use lib.Ieee.{Float, nan}
use Rattle.sheet_index.specs.Internal.{stored}
use Rattle.sheet_index.proofs.put.Given as goal

abbrev pub from : List Float → ℕ → ℕ → Float
from l i k = get_or l (k - i) nan

abbrev pub invariant-loop-k : goal.invariant-loop-k
invariant-loop-k l = (l.sines ≡ stored (from l.sin l.i) l.i l.k l.initial.sines) × (l.cosines ≡ stored (from l.cos l.i) l.i l.k l.initial.cosines)
