-- `thin_film_layers::response` meets its contract. Assumes nothing.
use borrow.Author.Rules.{rules}
use Rattle.thin_film_layers.proofs.response.Goals as goal

pub returns-in-Ok : goal.returns-in-Ok
returns-in-Ok c = simp c.in-Ok.is
