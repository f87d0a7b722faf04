-- `train_text::append_bits` meets its contract. Assumes nothing.
use native.Mathlib.Omega.{arith}
use Rattle.train_text.proofs.Pieces.{bits_are}
use Rattle.train_text.proofs.append_bits.Goals as goal

pub returns : goal.returns
returns c = (bits_are _ _ _ c.append.ensures c.hex-text.ensures c.pattern.ensures, omega (arith, c.append.ensures.counts))
