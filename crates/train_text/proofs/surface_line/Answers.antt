-- `train_text::surface_line` meets its contract. Assumes nothing.
use Rattle.train_text.proofs.Pieces.{surface_is}
use Rattle.train_text.proofs.surface_line.Goals as goal

pub returns : goal.returns
returns c = surface_is _ _ _ _ c.append_decimal-digits.ensures c.append_letter-letter.ensures c.append_bits-first.ensures c.append-space.ensures c.append_bits-second.ensures c.append.ensures
