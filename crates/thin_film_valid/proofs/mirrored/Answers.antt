-- `thin_film_valid::mirrored` meets its contract. Assumes nothing.
use borrow.Author.Rules.{rules}
use Rattle.thin_film_valid.proofs.mirrored.Goals as goal

pub returns : goal.returns
returns c = simp (c.zero.ensures, c.real.ensures)
