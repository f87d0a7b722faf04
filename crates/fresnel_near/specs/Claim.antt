-- A bare surface met head-on: fresnel_dielectric(1, n1, n2) beside the exact fraction (n1 - n2)² / (n1 + n2)², for indices from 1 to 4.
-- Each f64 is a count of 2^-1074, and the fractions are multiplied out. Types only; proofs/Claim.antt inhabits `EveryPair`.
use Rattle.std.specs.Prelude.{T, Float}
use Rattle.ieee.specs.Functions.{one}
use Rattle.ieee.specs.Range.{plus}
use Rattle.ieee_near.specs.Index.{Index, difference², sum², OffBy}
use Rattle.fresnel.specs.declared.Reflectances.{Reflectances}
use Rattle.fresnel.specs.Fresnel.{fresnel_dielectric}

-- R is off by 8·2^-53 of the fraction at most
pub record HeadOn (n1 n2 reflectance : Float) : Type 0 where
  pub sign : T (plus reflectance)
  pub near : OffBy 8 (difference² n1 n2) (sum² n1 n2) reflectance

pub record Both (n1 n2 : Float) (r : Reflectances) : Type 0 where
  pub s : HeadOn n1 n2 r.rs
  pub p : HeadOn n1 n2 r.rp

abbrev pub EveryPair : Type 0
EveryPair = (n1 n2 : Float) → Index n1 → Index n2 → Both n1 n2 (fresnel_dielectric one n1 n2)
