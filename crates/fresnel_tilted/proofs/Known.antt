-- The claim's premises can be met: air to glass of 1.5 at the cosine 4 / 5. Assumes nothing.
use Prim.Native.Nat.{ℕ, ◌^◌}
use lib.Dec.{lit≤}
use lib.Ieee.{Float, binary64, fits, le, lt, eq, of_bits}
use Rattle.ieee.specs.Functions.{one}
use Rattle.ieee.specs.Count.{count}
use Rattle.ieee_near.specs.Index.{Index}
use Rattle.fresnel.specs.Fresnel.{fresnel_dielectric}
use Rattle.fresnel_tilted.specs.Claim.{Snell, Refracts, Cosine, Tilted}
use Rattle.fresnel_tilted.proofs.Claim.{every_tilt}

-- 0.8 and 1.5
abbrev c : Float
c = of_bits binary64 0x3FE9_9999_9999_999A

abbrev glass : Float
glass = of_bits binary64 0x3FF8_0000_0000_0000

-- √0.84 in units of 2 ^ -80
abbrev t : ℕ
t = 1107998815594113553243341

air : Index one
unfolding fits le lt eq of_bits
air = record { held = tt; least = tt; most = tt }

pane : Index glass
unfolding fits le lt eq of_bits
pane = record { held = tt; least = tt; most = tt }

law : Snell one glass 4 5 t (2 ^ 80)
unfolding count of_bits
law = record { base = lit≤ tt; root = lit≤ tt }

bent : Refracts one glass 4 5
unfolding count of_bits
bent = lit≤ tt

cosine : Cosine c 4 5
unfolding count fits le lt eq of_bits
cosine = record { base = lit≤ tt; under = lit≤ tt; held = tt; least = tt; most = tt; near = record { most = lit≤ tt; least = lit≤ tt } }

pub example : Tilted one glass 4 5 t (2 ^ 80) (fresnel_dielectric c one glass)
example = every_tilt c one glass air pane 4 5 t (2 ^ 80) cosine bent law
