-- `thin_film_solver::step_s` meets its contract. Assumes nothing.
use mathlib.Core.Path.{◌∙◌, ap}
use Rattle.thin_film_solver.specs.Internal.{step_s}
use borrow.Author.Rules.{rules}
use Rattle.thin_film_solver.proofs.step_s.Goals as goal

pub returns : goal.returns
unfolding step_s
returns c = simp (c.mat_mul_2x2.ensures, c.layer_s.ensures)
