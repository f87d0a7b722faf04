-- `train_text::append_letter` meets its contract. Assumes nothing.
use Rattle.train_text.proofs.Pieces.{letter_is, other_letter_is}
use Rattle.train_text.proofs.append_letter.Goals as goal

pub returns-then-reflected : goal.returns-then-reflected
returns-then-reflected c = letter_is _ c.if-reflected.true c.append.ensures

pub returns-else-reflected : goal.returns-else-reflected
returns-else-reflected c = other_letter_is _ c.if-reflected.false c.append-else-reflected.ensures
