-- `surface_real::film_in` meets its contract. Assumes nothing.
use borrow.Author.Rules.{rules}
use Rattle.surface_real.specs.Internal.{film_in}
use Rattle.surface_real.proofs.film_in.Goals as goal

pub returns : goal.returns
unfolding film_in
returns c = simp (c.over-2.ensures, c.over.ensures)
