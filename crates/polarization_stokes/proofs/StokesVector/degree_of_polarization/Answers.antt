-- `polarization_stokes::StokesVector::degree_of_polarization` meets its contract. Assumes nothing.
use Rattle.polarization_stokes.specs.Stokes.{guarded, degree_of_polarization}
use borrow.Author.Rules.{rules}
use Rattle.polarization_stokes.proofs.StokesVector.degree_of_polarization.Goals as goal

pub returns-then-self : goal.returns-then-self
unfolding guarded degree_of_polarization
returns-then-self c = simp c.if-self.true

pub returns : goal.returns
unfolding guarded degree_of_polarization
returns c = simp (c.clamp.ensures, c.sqrt.ensures, c.if-self.false)
