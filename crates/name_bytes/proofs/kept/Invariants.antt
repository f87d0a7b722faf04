-- `name_bytes::kept` meets its contract. Assumes nothing.
use Rattle.name_bytes.proofs.Scan.{Left}
use Rattle.name_bytes.proofs.kept.Given as goal

abbrev pub invariant-loop-i : goal.invariant-loop-i
invariant-loop-i l = Left l.s l.i
