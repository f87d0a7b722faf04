-- `band::steady::surface_steady` meets its contract. Assumes nothing.
use Rattle.band.proofs.Always.{surface_is}
use Rattle.band.proofs.steady.surface_steady.Goals as goal

pub returns : goal.returns
returns c = λ t. surface_is _ _ _ c.surface_at.ensures _ c.judge_surface-judgement.ensures _ c.layer_run-n.ensures _ c.next_place.ensures (c.layers_steady.ensures t)
