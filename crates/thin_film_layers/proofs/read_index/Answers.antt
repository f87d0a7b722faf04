-- `thin_film_layers::read_index` meets its contract. Assumes nothing.
use borrow.Author.Rules.{rules}
use Rattle.thin_film_layers.proofs.read_index.Goals as goal

pub returns-in-Layers : goal.returns-in-Layers
returns-in-Layers c = simp (c.nth_index.ensures, c.in-Layers.is)
