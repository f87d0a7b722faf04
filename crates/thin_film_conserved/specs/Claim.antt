-- 02, slip 13: for a custom surface without layers, angle 0 and indices from 1 to 4, R + T, added without rounding, is within 2^-48 of 1,
-- for s and for p. Over whole numbers, each f64 a count of 2^-1074. Types only; proofs/Claim.antt inhabits `LightInLightOut`.
use Rattle.std.specs.Prelude.{◌≡◌, ℕ, ◌+◌, ◌*◌, ◌^◌, ◌≤◌, [], T, Float}
use Rattle.std.specs.Float.{binary64}
use Rattle.std.specs.Float.Ieee.{fits, eq}
use Rattle.ieee.specs.Functions.{zero_f, finite_positive}
use Rattle.ieee.specs.Range.{plus}
use Rattle.ieee.specs.Count.{count}
use Rattle.ieee_near.specs.Index.{Index, gap, difference², sum², OffBy}
use Rattle.refusal.specs.Outcome.{answer}
use Rattle.thin_film_solver.specs.declared.CoatingResponse.{CoatingResponse}
use Rattle.thin_film_coating.specs.declared.Coating.TheVariants as C
use Rattle.thin_film.specs.declared.SurfaceCoating.TheVariants as S
use Rattle.thin_film.specs.Evaluate.{evaluate_surface}

-- |R + T - 1| is at most so many 2^-1074, nothing rounded; a count is without its sign, which is clear
pub record AddsUp (bound : ℕ) (reflectance transmittance : Float) : Type 0 where
  pub reflects : T (plus reflectance)
  pub transmits : T (plus transmittance)
  pub near : gap (count reflectance + count transmittance) (2 ^ 1074) ≤ bound

-- for s and for p
pub record Conserves (bound : ℕ) (r : CoatingResponse) : Type 0 where
  pub s : AddsUp bound r.reflectance_s r.transmittance_s
  pub p : AddsUp bound r.reflectance_p r.transmittance_p

-- 2^-48
abbrev pub asked : ℕ
asked = 2 ^ 1026

-- 12 roundings, 12·2^-53, some 2^-49.4
abbrev pub reached : ℕ
reached = 12 * 2 ^ 1021

-- 4·n1·n2, of counts
abbrev pub product : Float → Float → ℕ
product n1 n2 = 4 * (count n1 * count n2)

-- R and T beside the exact (n1 - n2)² / (n1 + n2)² and 4·n1·n2 / (n1 + n2)²: each is off by 12·2^-53 of it at most
pub record Exact (n1 n2 : Float) (r : CoatingResponse) : Type 0 where
  pub reflects_s : OffBy 12 (difference² n1 n2) (sum² n1 n2) r.reflectance_s
  pub reflects_p : OffBy 12 (difference² n1 n2) (sum² n1 n2) r.reflectance_p
  pub transmits_s : OffBy 12 (product n1 n2) (sum² n1 n2) r.transmittance_s
  pub transmits_p : OffBy 12 (product n1 n2) (sum² n1 n2) r.transmittance_p

-- SurfaceCoating::evaluate of such a surface, at an angle of +0 or -0 and any wavelength that it does not refuse, gives a response P
pub record Answer (P : CoatingResponse → Type 0) (n_incident n_substrate angle wavelength : Float) : Type 0 where
  pub response : CoatingResponse
  pub is : evaluate_surface (S.Custom C.Multilayer) [] n_incident n_substrate angle wavelength ≡ answer response
  pub holds : P response

abbrev pub EverySurface : (Float → Float → CoatingResponse → Type 0) → Type 0
EverySurface P =
    (n_incident n_substrate angle wavelength : Float) → Index n_incident → Index n_substrate → T (fits binary64 angle) → T (eq angle zero_f)
    → T (finite_positive wavelength) → Answer (P n_incident n_substrate) n_incident n_substrate angle wavelength

pub record LightInLightOut : Type 0 where
  pub within : EverySurface (λ n1 n2. Conserves asked)
  pub closer : EverySurface (λ n1 n2. Conserves reached)
  pub exact : EverySurface Exact
