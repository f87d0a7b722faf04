-- `name_bytes::contains` meets its contract. Assumes nothing.
use mathlib.Core.Path.{◌≡◌}
use lib.ListN.{drop}
use Rattle.name_bytes.specs.Search.{contains}
use Rattle.name_bytes.proofs.contains.Given as goal

abbrev pub invariant-loop-k : goal.invariant-loop-k
invariant-loop-k l = contains l.s l.p ≡ contains (drop l.k l.s) l.p
