-- `name_bytes::first_over` meets its contract. Assumes nothing.
use mathlib.Core.Path.{◌≡◌}
use Prim.Native.Nat.{◌+◌}
use lib.ListN.{drop}
use Rattle.name_bytes.specs.Trim.{prefix}
use Rattle.name_bytes.specs.Ascii.{ascii}
use Rattle.name_bytes.proofs.first_over.Given as goal

abbrev pub invariant-loop-i : goal.invariant-loop-i
invariant-loop-i l = prefix ascii l.s ≡ l.i + prefix ascii (drop l.i l.s)
