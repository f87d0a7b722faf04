-- `test_records::write` meets its contract. Assumes nothing.
use mathlib.Core.Path.{◌≡◌}
use Prim.Native.Nat.{◌+◌}
use lib.ListN.{drop}
use Rattle.test_records.specs.Words.{written}
use Rattle.test_records.proofs.write.Given as goal

abbrev pub invariant-loop-i : goal.invariant-loop-i
invariant-loop-i l = written l.out (l.at + l.i) (drop l.i l.x) ≡ written l.initial.out l.at l.x
