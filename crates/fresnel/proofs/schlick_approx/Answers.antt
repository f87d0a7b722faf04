-- `fresnel::schlick_approx` meets its contract. Assumes nothing.
use mathlib.Core.Path.{sym}
use Rattle.fresnel.specs.Fresnel.{r_zero, schlick_approx}
use Rattle.fresnel.proofs.schlick_approx.Goals as goal

pub returns-then-n1-n2 : goal.returns-then-n1-n2
unfolding schlick_approx r_zero
returns-then-n1-n2 c = simp (c.schlick.ensures, c.powi2-r0.ensures, sym c.clamp-cos_i.ensures, c.if-n1-n2.true)

pub returns-then-sin2 : goal.returns-then-sin2
unfolding schlick_approx r_zero
returns-then-sin2 c = simp (sym c.clamp-cos_i.ensures, c.if-n1-n2.false, sym c.sin2_t-sin2.ensures, c.if-sin2.true)

pub returns : goal.returns
unfolding schlick_approx r_zero
returns c = simp (c.schlick-2.ensures, c.cos_t.ensures, c.powi2-r0.ensures, sym c.clamp-cos_i.ensures, c.if-n1-n2.false, sym c.sin2_t-sin2.ensures, c.if-sin2.false)
