-- `thin_film_layers::conclude` meets its contract. Assumes nothing.
use borrow.Author.Rules.{rules}
use Rattle.thin_film_layers.proofs.conclude.Goals as goal

pub returns-in-Layers : goal.returns-in-Layers
returns-in-Layers c = simp (c.finish.ensures, c.in-Layers.is)
