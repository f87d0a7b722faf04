-- `thin_film_reader::read` meets its contract. Assumes nothing.
use Prim.Native.Nat.{◌≤◌}
use lib.ListN.{length}
use Rattle.thin_film_reader.proofs.Reached.{Reached}
use Rattle.thin_film_reader.proofs.read.Given as goal

abbrev pub invariant-loop-i : goal.invariant-loop-i
invariant-loop-i l = (length l.text ≤ 255) × Reached l.text l.i l.m l.f
