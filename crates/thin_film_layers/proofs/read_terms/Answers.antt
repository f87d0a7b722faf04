-- `thin_film_layers::read_terms` meets its contract. Assumes nothing.
use borrow.Author.Rules.{rules}
use Rattle.thin_film_layers.proofs.read_terms.Goals as goal

pub returns-in-Answered : goal.returns-in-Answered
returns-in-Answered c = simp (c.terms_of.ensures, c.in-Answered.is)

pub returns-in-Layers : goal.returns-in-Layers
returns-in-Layers c = simp (c.terms_of-in-Layers.ensures, c.in-Layers.is)
