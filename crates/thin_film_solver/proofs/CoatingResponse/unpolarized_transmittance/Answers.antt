-- `thin_film_solver::CoatingResponse::unpolarized_transmittance` meets its contract. Assumes nothing.
use Rattle.thin_film_solver.specs.Solve.{unpolarized_transmittance}
use Rattle.thin_film_solver.proofs.CoatingResponse.unpolarized_transmittance.Goals as goal

pub returns : goal.returns
unfolding unpolarized_transmittance
returns c = cc
