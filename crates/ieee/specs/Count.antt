-- The size of a finite f64 as a whole number of 2 ^ -1074, the smallest value above zero. The sign is `sgn` of specs/Range.antt.
-- Definitions only.
-- Nothing is cut off: proofs/Count.antt ties the count to the fraction, `count x * den x ≡ num x * 2 ^ 1074` for every finite f64.
use Rattle.std.specs.Prelude.{ℕ, ◌*◌, ◌/◌, ◌^◌, Float}
use Rattle.std.specs.Float.Ieee.Positive.{num, den}

unfoldable pub count : Float → ℕ
count x = num x * 2 ^ 1074 / den x
