-- `fresnel::power` meets its contract. Assumes nothing.
use mathlib.Core.Path.{sym}
use Rattle.fresnel.specs.Fresnel.{power}
use Rattle.fresnel.proofs.power.Goals as goal

pub returns-then-abs : goal.returns-then-abs
unfolding power
returns-then-abs c = simp (sym c.abs.ensures, c.if-abs.true)

pub returns-else-abs : goal.returns-else-abs
unfolding power
returns-else-abs c = simp (c.clamp.ensures, c.powi2.ensures, sym c.abs.ensures, c.if-abs.false)
