-- `polarization_stokes::StokesVector::orientation_angle_rad` meets its contract. Assumes nothing.
use Rattle.polarization_stokes.specs.Stokes.{orientation_angle_rad}
use borrow.Author.Rules.{rules}
use Rattle.polarization_stokes.proofs.StokesVector.orientation_angle_rad.Goals as goal

pub returns : goal.returns
unfolding orientation_angle_rad
returns c = simp c.atan2.ensures
