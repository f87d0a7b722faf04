-- `c_call::two_jones` meets its contract. Assumes nothing.
use borrow.Author.Rules.{rules}
use Rattle.c_call.proofs.two_jones.Goals as goal

pub returns : goal.returns
returns c = simp (c.jones-a.ensures, c.jones-b.ensures)
