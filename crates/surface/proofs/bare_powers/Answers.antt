-- `surface::bare_powers` meets its contract. Assumes nothing.
use borrow.Author.Rules.{rules}
use Rattle.surface.proofs.bare_powers.Goals as goal

pub returns : goal.returns
returns c = c.bare_powers_with.ensures c.cos.ensures
