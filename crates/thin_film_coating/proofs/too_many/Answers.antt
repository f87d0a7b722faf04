-- `thin_film_coating::too_many` meets its contract. Assumes nothing.
use borrow.Author.Rules.{rules}
use Rattle.thin_film_coating.proofs.too_many.Goals as goal

pub returns : goal.returns
returns c = simp c.no_layers-items.ensures
