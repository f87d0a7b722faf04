-- `thin_film_solver::absorptance` meets its contract. Assumes nothing.
use borrow.Author.Rules.{rules}
use Rattle.thin_film_solver.specs.Absorptance.{absorptance}
use Rattle.thin_film_solver.proofs.absorptance.Goals as goal

pub returns : goal.returns
unfolding absorptance
returns c = c.clamp.ensures
