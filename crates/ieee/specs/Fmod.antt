-- What C's fmod is (01 section 2, %): the exact remainder with the dividend's sign. Definitions only; proofs/Fmod.antt shows it of the
-- language's %.
use Rattle.std.specs.Prelude.{◌≡◌, ℕ, ◌+◌, ◌*◌, ◌<◌, not, ◌||◌, T, Float}
use Rattle.std.specs.Float.{nan, binary64}
use Rattle.std.specs.Float.Ieee.{fits, is_nan}
use Rattle.std.specs.Float.Ieee.Scale.{finite}
use Rattle.std.specs.Float.Ieee.Positive.{num, den}
use Rattle.ieee.specs.Functions.{is_inf, is_zero}
use Rattle.ieee.specs.Range.{sgn}

-- |x| = times * |y| + |r| and |r| < |y|, as fractions of whole numbers: nothing is rounded, and an f64 holds r. It has x's sign, a zero
-- too.
pub record Remainder (x y r : Float) : Type 0 where
  pub held : T (fits binary64 r)
  pub fine : T (finite r)
  pub sign : sgn r ≡ sgn x
  pub times : ℕ
  pub exact : num x * (den y * den r) ≡ (times * num y * den r + num r * den y) * den x
  pub below : num r * den y < num y * den r

-- for all f64, by cases
pub record Fmod (rem : Float → Float → Float) : Type 0 where
  pub remainder : (x y : Float) → T (fits binary64 x) → T (fits binary64 y) → T (finite x) → T (finite y) → T (not (is_zero y)) →
      Remainder x y (rem x y)
  pub infinite : (x y : Float) → T (finite x) → T (is_inf y) → rem x y ≡ x
  pub otherwise : (x y : Float) → T (not (finite x) || (is_nan y || is_zero y)) → rem x y ≡ nan
