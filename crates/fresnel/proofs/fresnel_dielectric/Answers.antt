-- `fresnel::fresnel_dielectric` meets its contract. Assumes nothing.
use mathlib.Core.Path.{sym}
use Rattle.fresnel.specs.Fresnel.{fresnel_dielectric}
use Rattle.fresnel.proofs.fresnel_dielectric.Goals as goal

pub returns-then-sin2_t : goal.returns-then-sin2_t
unfolding fresnel_dielectric
returns-then-sin2_t c = simp (sym c.clamp-cos_i.ensures, sym c.sin2_t-sin2_t.ensures, c.if-sin2_t.true)

pub returns : goal.returns
unfolding fresnel_dielectric
returns c = simp (c.refracted.ensures, c.cos_t.ensures, sym c.clamp-cos_i.ensures, sym c.sin2_t-sin2_t.ensures, c.if-sin2_t.false)
