-- `thin_film_coating::single` meets its contract. Assumes nothing.
use borrow.Author.Rules.{rules}
use Rattle.thin_film_coating.proofs.single.Goals as goal

pub returns : goal.returns
returns c = simp c.no_layers-items.ensures
