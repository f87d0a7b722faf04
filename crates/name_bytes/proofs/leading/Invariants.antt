-- `name_bytes::leading` meets its contract. Assumes nothing.
use mathlib.Core.Path.{◌≡◌}
use Prim.Native.Nat.{◌+◌}
use lib.ListN.{drop}
use Rattle.name_bytes.specs.Trim.{blank, prefix}
use Rattle.name_bytes.proofs.leading.Given as goal

abbrev pub invariant-loop-i : goal.invariant-loop-i
invariant-loop-i l = prefix blank l.s ≡ l.i + prefix blank (drop l.i l.s)
