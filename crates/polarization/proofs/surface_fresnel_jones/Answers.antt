-- `polarization::surface_fresnel_jones` meets its contract. Assumes nothing.
use mathlib.Core.Path.{sym, ◌∙◌}
use borrow.Author.Tests.{not-true, not-false}
use Rattle.polarization.specs.Surface.{surface_fresnel_jones}
use Rattle.polarization.proofs.surface_fresnel_jones.Goals as goal

pub returns-then-not-indices_valid : goal.returns-then-not-indices_valid
unfolding surface_fresnel_jones
returns-then-not-indices_valid c = simp (sym c.indices_valid.ensures ∙ c.if-not-indices_valid.true)

pub returns : goal.returns
unfolding surface_fresnel_jones
returns c = simp (c.bare.ensures, c.sin_cos-i.ensures, sym c.indices_valid.ensures ∙ c.if-not-indices_valid.false)
