-- `fresnel::schlick` meets its contract. Assumes nothing.
use Rattle.fresnel.specs.Fresnel.{schlick}
use Rattle.fresnel.proofs.schlick.Goals as goal

pub returns : goal.returns
unfolding schlick
returns c = simp (c.clamp.ensures, c.powi5.ensures, c.clamp-x.ensures)
