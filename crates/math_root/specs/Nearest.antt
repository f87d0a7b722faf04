-- What IEEE 754's squareRoot is, for all f64 (01 section 2, sqrt): the value nearest to the exact root. Definitions only;
-- proofs/Nearest.antt and proofs/SquareRoot.antt show it of `sqrt`.
-- In units of 2 ^ -1074 let x be X, r be R and any other value v be V: whole numbers, their counts. The exact root of x is √(X * 2 ^ 1074)
-- of these units.
-- It is nearer to r than to v where it lies on r's side of the midpoint (R + V) / 2. By squares that is an order of 4 * X * 2 ^ 1074 and (R
-- + V) ^ 2.
use Rattle.std.specs.Prelude.{◌≡◌, ℕ, ◌+◌, ◌*◌, ◌^◌, ◌<◌, false, T, Float}
use Rattle.std.specs.Float.{nan, inf, binary64}
use Rattle.std.specs.Float.Ieee.{lt, fits}
use Rattle.std.specs.Float.Ieee.Positive.{positive}
use Rattle.ieee.specs.Count.{count}
use Rattle.ieee.specs.Functions.{zero_f, is_zero}
use Rattle.ieee.specs.Range.{plus}

abbrev pub square : ℕ → ℕ
square n = n * n

-- Both orders are strict: no other value is even as near. So a tie, which would go to the even one, never happens.
pub record Nearest (x r : Float) : Type 0 where
  pub held : T (fits binary64 r)
  pub above : T (positive r)
  pub larger : (v : Float) → T (fits binary64 v) → T (plus v) → count r < count v → 4 * (count x * 2 ^ 1074) < square (count r + count v)
  pub smaller : (v : Float) → T (fits binary64 v) → T (plus v) → count v < count r → square (count r + count v) < 4 * (count x * 2 ^ 1074)

-- For all f64, by cases: a finite x above zero, a zero of either sign, an x below zero (-∞ too), +∞, NaN.
pub record SquareRoot (root : Float → Float) : Type 0 where
  pub nearest : (x : Float) → T (fits binary64 x) → T (positive x) → Nearest x (root x)
  pub of_zero : (x : Float) → T (is_zero x) → root x ≡ x
  pub below_zero : (x : Float) → T (lt x zero_f) → root x ≡ nan
  pub of_infinity : root (inf false) ≡ inf false
  pub of_nan : root nan ≡ nan

-- These fix every bit: two functions that are a square root give the same of every f64.
abbrev pub OneSquareRoot : Type 0
OneSquareRoot = (f g : Float → Float) → SquareRoot f → SquareRoot g → (x : Float) → T (fits binary64 x) → f x ≡ g x
