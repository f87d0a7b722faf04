-- `reflectance_range::head_on` meets its contract. Assumes nothing.
use Rattle.reflectance_range.specs.Range.{head_on}
use Rattle.reflectance_range.proofs.head_on.Goals as goal

pub returns : goal.returns
unfolding head_on
returns c = simp c.fresnel_dielectric-reflectances.ensures
