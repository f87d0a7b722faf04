-- `train_text::copy` meets its contract. Assumes nothing.
use Rattle.train_text.proofs.Pages.{Half}
use Rattle.train_text.proofs.copy.Given as goal

abbrev pub invariant-loop-i : goal.invariant-loop-i
invariant-loop-i l = Half l.initial.buffer 0 l.bytes l.buffer l.i
