-- `test_tally::replay` meets its contract. The loop's invariant: the counts are those of some records, at most one for each turn. Assumes nothing.
use Rattle.std.proofs.Common.{◌≡◌, length, ℕ, ◌≤◌, Bool, List}
use Rattle.test_tally.specs.Counts.{after}
use Rattle.test_tally.proofs.replay.Given as goal

abbrev pub invariant-loop-done : goal.invariant-loop-done
invariant-loop-done g l = (records : List (ℕ × Bool)) × (length records ≤ l._done) × ((l.tally.all, l.tally.agreed) ≡ after records)
