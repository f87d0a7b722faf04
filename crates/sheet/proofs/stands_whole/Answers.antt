-- `sheet::stands_whole` meets its contract. Assumes nothing.
use native.Mathlib.Omega.{arith}
use Rattle.sheet.proofs.Whole.{no_room, room}
use Rattle.sheet.proofs.stands_whole.Goals as goal

pub returns-then-total-at : goal.returns-then-total-at
returns-then-total-at c = room _ _ _ _ (omega arith) _ c.word_from.ensures

pub returns-else-total-at : goal.returns-else-total-at
returns-else-total-at c = no_room _ _ _ _ (omega arith)

pub returns-else-at-total : goal.returns-else-at-total
returns-else-at-total c = no_room _ _ _ _ (omega (arith, c.requires))
