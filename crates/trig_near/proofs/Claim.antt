-- The claim. Assumes nothing.
use Rattle.trig_near.specs.Claim.{TrigNear}
use Rattle.trig_near.proofs.Turned.{cos_near, sin_near, cos_facing, sin_facing}
use Rattle.trig_near.proofs.Facing.{faces}
use Rattle.trig_near.proofs.Averted.{sides, cos_averted, sin_averted}

pub trig_near : TrigNear
trig_near = record { cosine = cos_near; sine = sin_near; faces = faces; cosine_facing = cos_facing; sine_facing = sin_facing; sides = sides; cosine_averted = cos_averted; sine_averted = sin_averted }
