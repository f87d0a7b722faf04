-- `train_text::append_decimal` meets its contract. Assumes nothing.
use native.Mathlib.Omega.{arith}
use Rattle.train_text.proofs.Pieces.{decimal_is}
use Rattle.train_text.proofs.append_decimal.Goals as goal

pub slice_bounds-append-end : goal.slice_bounds-append-end
slice_bounds-append-end c = omega (arith, c.decimal-d.ensures.1.1)

pub returns : goal.returns
returns c = decimal_is _ _ _ c.append.ensures c.decimal-d.ensures
