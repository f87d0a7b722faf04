-- `thin_film_coating::without_layers` meets its contract. Assumes nothing.
use borrow.Author.Rules.{rules}
use Rattle.thin_film_coating.proofs.without_layers.Goals as goal

pub returns : goal.returns
returns c = simp c.no_layers-items.ensures
