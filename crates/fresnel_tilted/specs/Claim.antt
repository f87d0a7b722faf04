-- A bare surface at a tilt: fresnel_dielectric(cos, n1, n2) beside Fresnel's exact fractions, for indices from 1 to 4.
-- Types only; proofs/Claim.antt inhabits `EveryTilt`.
-- Each f64 is a count of 2 ^ -1074, and the fractions are multiplied out. A root is named by any fraction whose square is near enough.
use Rattle.std.specs.Prelude.{ℕ, ◌+◌, ◌-◌, ◌*◌, ◌^◌, ◌≤◌, ◌<◌, T, Float}
use Rattle.std.specs.Float.{binary64}
use Rattle.std.specs.Float.Ieee.{fits, le}
use Rattle.ieee.specs.Operators.{◌⊖◌}
use Rattle.ieee.specs.Functions.{one, quarter}
use Rattle.ieee.specs.Range.{plus}
use Rattle.ieee.specs.Count.{count}
use Rattle.ieee_near.specs.Index.{Index, gap}
use Rattle.near_abs.specs.Off.{Within}
use Rattle.fresnel.specs.declared.Reflectances.{Reflectances}
use Rattle.fresnel.specs.Fresnel.{fresnel_dielectric}

-- ---- Snell's law: sin² of the refracted light is (n1 / n2)²·(1 - cos²), for a cosine of C / K
abbrev pub sine_top : Float → ℕ → ℕ → ℕ
sine_top n1 C K = count n1 * count n1 * (K * K - C * C)

abbrev pub sine_bottom : Float → ℕ → ℕ
sine_bottom n2 K = count n2 * count n2 * (K * K)

-- (T / L)² + sin² is 1 up to 1 / E
abbrev pub Root : ℕ → Float → Float → ℕ → ℕ → ℕ → ℕ → Type 0
Root E n1 n2 C K T L =
    gap (T * T * sine_bottom n2 K + sine_top n1 C K * (L * L)) (sine_bottom n2 K * (L * L)) * E ≤ sine_bottom n2 K * (L * L)

-- C / K is the cosine that comes in, and T / L the one that goes on, up to 2 ^ -60 in its square
pub record Snell (n1 n2 : Float) (C K T L : ℕ) : Type 0 where
  pub base : 0 < L
  pub root : Root (2 ^ 60) n1 n2 C K T L

-- sin² is 25 / 32 at most: the gate holds the sine to 7 / 8
abbrev pub Refracts : Float → Float → ℕ → ℕ → Type 0
Refracts n1 n2 C K = sine_top n1 C K * 32 ≤ 25 * sine_bottom n2 K

-- ---- the f64 cos: from 0.25 to 1, within (25 + 73·sin²) / 8 · 2 ^ -53 of C / K, which is from 0 to 1
pub record Cosine (c : Float) (C K : ℕ) : Type 0 where
  pub base : 0 < K
  pub under : C ≤ K
  pub held : T (fits binary64 c)
  pub least : T (le quarter c)
  pub most : T (le c one)
  pub near : Within (2 ^ 1018 * (25 * (K * K) + 73 * (K * K - C * C))) (count c * K * K) (C * K * 2 ^ 1074)

-- ---- Fresnel: of the amplitudes' (a - b) / (a + b) the square is reflected, and the rest, 4·a·b / (a + b)², goes on
abbrev pub whole : ℕ → ℕ → ℕ
whole a b = (a + b) * (a + b)

abbrev pub reflected : ℕ → ℕ → ℕ
reflected a b = gap a b * gap a b

abbrev pub transmitted : ℕ → ℕ → ℕ
transmitted a b = 4 * (a * b)

-- s: a and b are n1·cos_i and n2·cos_t; p: n2·cos_i and n1·cos_t. All have the factor 2 ^ -1074 / (K-as-L)
abbrev pub first : Float → ℕ → ℕ → ℕ
first n C L = count n * C * L

abbrev pub second : Float → ℕ → ℕ → ℕ
second n T K = count n * T * K

-- how near: 2 ^ -45, in counts
abbrev pub bound : ℕ
bound = 2 ^ 1029

-- x is within the bound of A / B
pub record Power (A B : ℕ) (x : Float) : Type 0 where
  pub base : 0 < B
  pub sign : T (plus x)
  pub near : Within (bound * B) (count x * B) (A * 2 ^ 1074)

-- R and 1 - R, which is rounded
pub record Both (a b : ℕ) (x : Float) : Type 0 where
  pub reflects : Power (reflected a b) (whole a b) x
  pub transmits : Power (transmitted a b) (whole a b) (one ⊖ x)

pub record Tilted (n1 n2 : Float) (C K T L : ℕ) (r : Reflectances) : Type 0 where
  pub s : Both (first n1 C L) (second n2 T K) r.rs
  pub p : Both (first n2 C L) (second n1 T K) r.rp

abbrev pub EveryTilt : Type 0
EveryTilt =
    (c n1 n2 : Float) → Index n1 → Index n2 → (C K T L : ℕ) → Cosine c C K → Refracts n1 n2 C K → Snell n1 n2 C K T L
    → Tilted n1 n2 C K T L (fresnel_dielectric c n1 n2)
