-- `polarization_stokes::JonesVector::normalize` meets its contract. Assumes nothing.
use mathlib.Core.Path.{sym}
use Rattle.polarization_stokes.specs.Jones.{normalize}
use borrow.Author.Rules.{rules}
use Rattle.polarization_stokes.proofs.JonesVector.normalize.Goals as goal

pub returns-then-i : goal.returns-then-i
unfolding normalize
returns-then-i c = simp (sym c.intensity-i.ensures, c.if-i.true)

pub returns : goal.returns
unfolding normalize
returns c = simp (c.scale-2.ensures, c.scale.ensures, c.sqrt-inv_sqrt_i.ensures, sym c.intensity-i.ensures, c.if-i.false)
