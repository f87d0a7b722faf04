-- `train_text::sum_line` meets its contract. Assumes nothing.
use Rattle.train_text.proofs.Pieces.{sum_is}
use Rattle.train_text.proofs.sum_line.Goals as goal

pub returns : goal.returns
returns c = sum_is _ _ _ c.requires c.append-word.ensures c.sum.ensures c.append_bits-sum.ensures c.append.ensures
