-- `fresnel::fresnel_unpolarized` meets its contract. Assumes nothing.
use Rattle.fresnel.specs.Fresnel.{r_total, fresnel_unpolarized}
use Rattle.fresnel.proofs.fresnel_unpolarized.Goals as goal

pub returns : goal.returns
unfolding r_total fresnel_unpolarized
returns c = simp (c.clamp-t_total.ensures, c.fresnel_dielectric-r.ensures)
