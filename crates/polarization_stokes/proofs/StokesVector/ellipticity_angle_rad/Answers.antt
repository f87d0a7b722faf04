-- `polarization_stokes::StokesVector::ellipticity_angle_rad` meets its contract. Assumes nothing.
use Rattle.polarization_stokes.specs.Stokes.{guarded, ellipticity_angle_rad}
use borrow.Author.Rules.{rules}
use Rattle.polarization_stokes.proofs.StokesVector.ellipticity_angle_rad.Goals as goal

pub returns-then-self : goal.returns-then-self
unfolding guarded ellipticity_angle_rad
returns-then-self c = simp c.if-self.true

pub returns : goal.returns
unfolding guarded ellipticity_angle_rad
returns c = simp (c.asin.ensures, c.clamp-ratio.ensures, c.if-self.false)
