-- `thin_film_solver::ThinFilmLayer::dielectric` meets its contract. Assumes nothing.
use Rattle.thin_film_solver.specs.Solve.{dielectric}
use Rattle.thin_film_solver.proofs.ThinFilmLayer.dielectric.Goals as goal

pub returns : goal.returns
unfolding dielectric
returns c = cc
