-- `thin_film_solver::no_response` meets its contract. Assumes nothing.
use borrow.Author.Rules.{rules}
use Rattle.thin_film_solver.proofs.no_response.Goals as goal

pub returns : goal.returns
returns c = simp c.zero-zero.ensures
