-- 01 section 2: atan has the 'sign of x', atan2 the 'sign of y throughout', for all f64 but NaN. Definitions only; proofs/Signs.antt has
-- the proof.
use Rattle.std.specs.Prelude.{◌≡◌, Bool, not, T, Float}
use Rattle.std.specs.Float.Ieee.{is_nan}
use Rattle.ieee.specs.Range.{sgn}
use Rattle.math_atan.specs.Atan.{atan, atan2}

abbrev pub Number : Float → Type 0
Number x = T (not (is_nan x))

-- v is a number with the sign bit s, a zero too
abbrev pub Signed : Bool → Float → Type 0
Signed s v = Number v × (sgn v ≡ s)

pub record Signs : Type 0 where
  pub sign_of_x : (x : Float) → Number x → Signed (sgn x) (atan x)
  pub sign_of_y : (y x : Float) → Number y → Number x → Signed (sgn y) (atan2 y x)
