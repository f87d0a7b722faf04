-- `thin_film_solver::respond` meets its contract. Assumes nothing.
use borrow.Author.Rules.{rules}
use Rattle.thin_film_solver.specs.Absorptance.{with_absorptance}
use Rattle.thin_film_solver.specs.Solve.{rust_respond, respond}
use Rattle.thin_film_solver.proofs.respond.Goals as goal

pub returns : goal.returns
unfolding rust_respond with_absorptance respond
returns c = simp (c.absorptance-2.ensures, c.absorptance.ensures)
