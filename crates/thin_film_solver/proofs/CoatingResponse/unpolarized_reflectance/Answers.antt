-- `thin_film_solver::CoatingResponse::unpolarized_reflectance` meets its contract. Assumes nothing.
use Rattle.thin_film_solver.specs.Solve.{unpolarized_reflectance}
use Rattle.thin_film_solver.proofs.CoatingResponse.unpolarized_reflectance.Goals as goal

pub returns : goal.returns
unfolding unpolarized_reflectance
returns c = cc
