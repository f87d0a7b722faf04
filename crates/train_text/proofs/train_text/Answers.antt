-- `train_text::train_text` meets its contract. Assumes nothing.
use native.Mathlib.Omega.{arith}
use lib.ListN.{length-take}
use Rattle.train_text.proofs.Whole.{too_short, fits}
use Rattle.train_text.proofs.train_text.Goals as goal

pub returns-then-buffer-n : goal.returns-then-buffer-n
returns-then-buffer-n c = too_short _ _ _ c.write_text-n.ensures.0.counts c.if-buffer-n.true

pub slice_bounds-copy-end : goal.slice_bounds-copy-end
slice_bounds-copy-end c = simp length-take (omega (arith, c.write_text-n.ensures.1))

pub copy-requires : goal.copy-requires
copy-requires c = simp length-take (omega arith)

pub returns : goal.returns
returns c = fits _ _ _ _ _ _ c.write_text-n.ensures.0 c.if-buffer-n.false c.copy.ensures
