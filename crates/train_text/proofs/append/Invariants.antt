-- `train_text::append` meets its contract. Assumes nothing.
use Rattle.train_text.proofs.Pages.{Half}
use Rattle.train_text.proofs.append.Given as goal

abbrev pub invariant-loop-i : goal.invariant-loop-i
invariant-loop-i l = Half l.initial.page l.at l.bytes l.page l.i
