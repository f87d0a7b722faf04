-- `name_bytes::begins` meets its contract. Assumes nothing.
use mathlib.Core.Path.{◌≡◌}
use lib.ListN.{drop}
use Rattle.name_bytes.specs.Search.{begins}
use Rattle.name_bytes.proofs.begins.Given as goal

abbrev pub invariant-loop-i : goal.invariant-loop-i
invariant-loop-i l = begins l.s l.p ≡ begins (drop l.i l.s) (drop l.i l.p)
