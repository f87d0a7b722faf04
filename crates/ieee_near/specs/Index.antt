-- An index from 1 to 4, and the exact fractions of two: each f64 is a count of 2^-1074, and the fractions are multiplied out.
-- Definitions only.
use Rattle.std.specs.Prelude.{ℕ, ◌+◌, ◌-◌, ◌*◌, ◌^◌, ◌≤◌, T, Float}
use Rattle.std.specs.Float.{binary64}
use Rattle.std.specs.Float.Ieee.{fits, le}
use Rattle.ieee.specs.Functions.{one, four}
use Rattle.ieee.specs.Count.{count}

-- an f64 from lo to hi
pub record Between (lo hi x : Float) : Type 0 where
  pub held : T (fits binary64 x)
  pub least : T (le lo x)
  pub most : T (le x hi)

-- 02, slips 9 and 13: an index from 1 to 4
abbrev pub Index : Float → Type 0
Index n = Between one four n

-- |a - b|: of whole numbers a difference that would be below 0 is 0
abbrev pub gap : ℕ → ℕ → ℕ
gap a b = a - b + (b - a)

-- (n1 - n2)² and (n1 + n2)², of counts
abbrev pub difference² : Float → Float → ℕ
difference² n1 n2 = gap (count n1) (count n2) * gap (count n1) (count n2)

abbrev pub sum² : Float → Float → ℕ
sum² n1 n2 = (count n1 + count n2) * (count n1 + count n2)

-- |x - a/b| is at most so many 2^-53 of a/b
abbrev pub OffBy : ℕ → ℕ → ℕ → Float → Type 0
OffBy parts a b x = gap (count x * b) (a * 2 ^ 1074) * 2 ^ 53 ≤ parts * (a * 2 ^ 1074)
