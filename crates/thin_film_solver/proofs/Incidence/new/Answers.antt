-- `thin_film_solver::Incidence::new` meets its contract. Assumes nothing.
use Rattle.thin_film_solver.specs.Internal.{incidence}
use borrow.Author.Rules.{rules}
use Rattle.thin_film_solver.proofs.Incidence.new.Goals as goal

pub returns : goal.returns
unfolding incidence
returns c = simp c.sin_cos-theta0.ensures
