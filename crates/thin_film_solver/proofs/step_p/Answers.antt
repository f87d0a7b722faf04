-- `thin_film_solver::step_p` meets its contract. Assumes nothing.
use mathlib.Core.Path.{◌∙◌, ap}
use Rattle.thin_film_solver.specs.Internal.{step_p}
use borrow.Author.Rules.{rules}
use Rattle.thin_film_solver.proofs.step_p.Goals as goal

pub returns : goal.returns
unfolding step_p
returns c = simp (c.mat_mul_2x2.ensures, c.layer_p.ensures)
