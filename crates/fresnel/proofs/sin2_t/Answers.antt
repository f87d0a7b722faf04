-- `fresnel::sin2_t` meets its contract. Assumes nothing.
use Rattle.fresnel.specs.Fresnel.{sin2_t}
use Rattle.fresnel.proofs.sin2_t.Goals as goal

pub returns : goal.returns
unfolding sin2_t
returns c = simp c.max.ensures
