-- `test_tally::Tally::print` meets its contract. Assumes nothing.
use Rattle.std.proofs.Common.{◌≡◌}
use Rattle.test_tally.specs.Counts.{all_clean}
use Rattle.test_tally.proofs.Tally.print.Given as goal

abbrev pub invariant-loop-f : goal.invariant-loop-f
invariant-loop-f l = l.every ≡ all_clean l.f l.self.all l.self.agreed
