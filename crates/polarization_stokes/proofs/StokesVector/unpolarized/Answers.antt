-- `polarization_stokes::StokesVector::unpolarized` meets its contract. Assumes nothing.
use Rattle.polarization_stokes.specs.Stokes.{unpolarized}
use borrow.Author.Rules.{rules}
use Rattle.polarization_stokes.proofs.StokesVector.unpolarized.Goals as goal

pub returns : goal.returns
unfolding unpolarized
returns c = simp c.max.ensures
