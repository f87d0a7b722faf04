-- `fresnel::cos_t` meets its contract. Assumes nothing.
use Rattle.fresnel.specs.Fresnel.{cos_t}
use Rattle.fresnel.proofs.cos_t.Goals as goal

pub returns : goal.returns
unfolding cos_t
returns c = simp (c.sqrt.ensures, c.max.ensures)
