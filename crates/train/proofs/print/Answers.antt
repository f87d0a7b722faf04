-- `train::print` is safe: what is written of a text fits the buffer. Assumes nothing.
use mathlib.Core.Path.{ap}
use native.Mathlib.Omega.{arith}
use borrow.Author.Rules.{rules}
use lib.ListN.{length-take}
use Rattle.train_text.proofs.Whole.{written_fits}
use Rattle.train.proofs.print.Goals as goal
use Rattle.refusal.specs.Outcome.{outcome}

pub slice_bounds-text-end : goal.slice_bounds-text-end
slice_bounds-text-end c = omega (arith, written_fits _ _ _ _ _ c.train_text.ensures (ap outcome c.in-Ok.is))

pub slice_bounds-write_all-end : goal.slice_bounds-write_all-end
slice_bounds-write_all-end c = simp length-take (omega (arith, written_fits _ _ _ _ _ c.train_text.ensures (ap outcome c.in-Ok.is)))
