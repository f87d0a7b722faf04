-- `fresnel::refracted` meets its contract. Assumes nothing.
use Rattle.fresnel.specs.Fresnel.{refracted}
use Rattle.fresnel.proofs.refracted.Goals as goal

pub returns : goal.returns
unfolding refracted
returns c = simp (c.power-rp.ensures, c.power-rs.ensures)
