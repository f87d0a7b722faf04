-- The claim's premises can be met: air to glass of 1.5 at an angle of 1 rad. Assumes nothing.
use mathlib.Core.Path.{refl}
use Prim.Native.Nat.{ℕ, ◌*◌, ◌^◌}
use lib.Dec.{T, lit≤}
use lib.IntN.{nat_abs}
use lib.Ieee.{Float, binary64, fits, neg, add, sub, mul, div, rem, lt, eq, le, of_bits, of_int}
use Rattle.ieee.specs.Functions.{one, abs, clamp}
use Rattle.ieee.specs.Count.{count}
use Rattle.whole_nearest.specs.Nearest.{nearest_whole}
use Rattle.math_trig.specs.Trig.{wrap, less_turns, reduce, first_line, fold, second_fold, series, sin_at, sin, cos_at, cos_of, cos}
use Rattle.math_phase.specs.Claim.{two_pi}
use Rattle.trig_near.specs.Sums.{cosine_top, cosine_bottom}
use Rattle.trig_near.specs.Claim.{left}
use Rattle.fresnel.specs.Fresnel.{fresnel_dielectric}
use Rattle.fresnel_tilted.specs.Claim.{Tilted}
use Rattle.bare_near.specs.Claim.{Admitted, Optics}
use Rattle.bare_near.proofs.Claim.{every_angle}

-- 1.5
abbrev pub glass : Float
glass = of_bits binary64 0x3FF8_0000_0000_0000

admitted : Admitted one one glass
unfolding sin sin_at cos cos_of cos_at second_fold fold wrap first_line reduce less_turns nearest_whole series clamp abs rem lt eq le add sub mul div neg of_bits of_int fits
admitted = record {
  angle = record { held = tt; most = tt };
  incident = record { held = tt; least = tt; most = tt };
  substrate = record { held = tt; least = tt; most = tt };
  cosine = tt;
  sine = tt;
}

-- the cosine of the refracted light in units of 2 ^ -80
pub optics : Optics one one glass
unfolding count div of_bits
optics = record {
  P = two_pi;
  Q = 2 ^ 110;
  turn = record { base = lit≤ tt; least = lit≤ tt; most = lit≤ tt };
  N = 11;
  terms = lit≤ tt;
  C = nat_abs (cosine_top (left one two_pi (2 ^ 110)) (2 ^ 110 * 2 ^ 1074) 11);
  K = cosine_bottom (2 ^ 110 * 2 ^ 1074) 11;
  top = refl;
  bottom = refl;
  t = 1000783742615360432309080;
  L = 2 ^ 80;
  snell = record { base = lit≤ tt; root = lit≤ tt };
}

pub example : Tilted one glass optics.C optics.K optics.t optics.L (fresnel_dielectric (cos one) one glass)
example = every_angle one one glass admitted optics
