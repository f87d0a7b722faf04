-- `test_tally::Tally::print` meets its contract. Assumes nothing.
use Rattle.std.proofs.Common.{refl, add-one}
use Rattle.test_tally.specs.Counts.{all_clean}
use Rattle.test_tally.proofs.Tally.print.Goals as goal

pub loop-f-init : goal.loop-f-init
unfolding all_clean
loop-f-init c = refl

-- one function more
pub loop-f-preserved : goal.loop-f-preserved
unfolding all_clean
loop-f-preserved c = rw (c.loop-f.invariant, c.clean-every.ensures, add-one c.loop-f.f) refl
