-- `train_text::refused_line` meets its contract. Assumes nothing.
use Rattle.train_text.proofs.Pieces.{refusal_is}
use Rattle.train_text.proofs.refused_line.Goals as goal

pub returns : goal.returns
returns c = refusal_is _ _ c.requires c.append-word.ensures c.append_decimal-first.ensures c.append-space.ensures c.append_decimal-second.ensures c.append.ensures
