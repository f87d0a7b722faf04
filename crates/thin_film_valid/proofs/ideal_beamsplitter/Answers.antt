-- `thin_film_valid::ideal_beamsplitter` meets its contract. Assumes nothing.
use borrow.Author.Rules.{rules}
use Rattle.thin_film_solver.specs.Solve.{respond}
use Rattle.thin_film_valid.proofs.ideal_beamsplitter.Goals as goal

pub returns : goal.returns
unfolding respond
returns c = simp (c.respond.ensures, c.real-amp.ensures, c.sqrt.ensures)
