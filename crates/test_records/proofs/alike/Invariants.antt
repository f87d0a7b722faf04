-- `test_records::alike` meets its contract. Assumes nothing.
use mathlib.Core.Path.{◌≡◌}
use lib.ListN.{drop}
use Rattle.test_records.specs.Words.{agree}
use Rattle.test_records.proofs.alike.Given as goal

abbrev pub invariant-loop-i : goal.invariant-loop-i
invariant-loop-i l = agree (drop l.i l.got) l.want l.i ≡ agree l.got l.want 0
