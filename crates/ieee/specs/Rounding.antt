-- The laws of rounding, as one statement over either format. Definitions only; proofs/Rounding.antt has the proof.
-- `round f s a c` is the value that the format f has for the fraction a / c with the sign s. Both fractions' sizes are multiplied out, so
-- that only whole numbers are compared.
use Rattle.std.specs.Prelude.{◌≡◌, ℕ, ◌+◌, ◌-◌, ◌*◌, ◌^◌, ◌≤◌, ◌<◌, Bool, false, T, Float}
use Rattle.std.specs.Float.{Format}
use Rattle.std.specs.Float.Ieee.{prec, low, round, le, fits}
use Rattle.std.specs.Float.Ieee.Scale.{finite}
use Rattle.std.specs.Float.Ieee.Positive.{num, den}
use Rattle.ieee.specs.Range.{sgn}

-- m and n differ by e at most
abbrev pub Within : ℕ → ℕ → ℕ → Type 0
Within e m n = (m ≤ n + e) × (n ≤ m + e)

-- |r - a / c| ≤ a / c / 2 ^ prec: one part in 2 ^ 53 for an f64
abbrev pub OnePart : Format → ℕ → ℕ → Float → Type 0
OnePart f a c r = Within (a * den r) (num r * c * 2 ^ prec f) (a * den r * 2 ^ prec f)

-- |r - a / c| ≤ 2 ^ -low / 2: half of the smallest value
abbrev pub HalfUnit : Format → ℕ → ℕ → Float → Type 0
HalfUnit f a c r = Within (c * den r) (2 * (num r * c * 2 ^ low f)) (2 * (a * den r * 2 ^ low f))

-- The normal range starts at 2 ^ (prec - 1) smallest values.
pub record Rounding (f : Format) : Type 0 where
  pub monotone : (a b c d : ℕ) → 0 < b → 0 < d → a * d ≤ c * b → T (le (round f false a b) (round f false c d))
  pub exact : (x : Float) → T (fits f x) → T (finite x) → round f (sgn x) (num x) (den x) ≡ x
  pub normal : (s : Bool) (a c : ℕ) → 0 < c → 2 ^ (prec f - 1) * c ≤ a * 2 ^ low f → T (finite (round f s a c)) →
      OnePart f a c (round f s a c)
  pub below : (s : Bool) (a c : ℕ) → 0 < c → a * 2 ^ low f < 2 ^ (prec f - 1) * c → HalfUnit f a c (round f s a c)
