-- `thin_film_valid::ideal_ar` meets its contract. Assumes nothing.
use borrow.Author.Rules.{rules}
use Rattle.thin_film_solver.specs.Solve.{respond}
use Rattle.thin_film_valid.proofs.ideal_ar.Goals as goal

pub returns : goal.returns
unfolding respond
returns c = simp (c.respond.ensures, c.real.ensures, c.zero.ensures)
