-- `thin_film_valid::ideal_mirror` meets its contract. Assumes nothing.
use borrow.Author.Rules.{rules}
use Rattle.thin_film_solver.specs.Solve.{respond}
use Rattle.thin_film_valid.proofs.ideal_mirror.Goals as goal

pub returns : goal.returns
unfolding respond
returns c = simp (c.respond.ensures, c.mirrored-p.ensures, c.mirrored-s.ensures)
