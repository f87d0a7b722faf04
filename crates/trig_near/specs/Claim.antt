-- How near sin and cos of section 2 are to the exact sine and cosine. Types only; proofs/Claim.antt inhabits `TrigNear`.
-- No real number is written down. The exact sine is the limit of the partial sums of its series, so what is within a bound of all of them
-- from some N on is within that bound of it.
use Rattle.std.specs.Prelude.{ℕ, ◌+◌, ◌*◌, ◌^◌, ◌≤◌, ◌<◌, ◌⊎◌, T, ℤ, pos, nat_abs, ◌-ℤ◌, ◌*ℤ◌, Float}
use Rattle.std.specs.Float.{binary64}
use Rattle.std.specs.Float.Ieee.{fits, neg, lt, le}
use Rattle.ieee.specs.Functions.{quarter, abs}
use Rattle.ieee.specs.Range.{sgn}
use Rattle.whole_f64.specs.Whole.{signed}
use Rattle.math_trig.specs.Angles.{half_pi}
use Rattle.math_trig.specs.Trig.{reduce, sin, cos}
use Rattle.math_phase.specs.Claim.{Thick, turns, value, two_pi}
use Rattle.trig_near.specs.Sums.{cosine_top, cosine_bottom, sine_top, sine_bottom}

-- |x - A / B| ≤ parts · 2 ^ -53, multiplied out; `value x` is x in counts of 2 ^ -1074
abbrev pub OffBy : ℕ → ℤ → ℕ → Float → Type 0
OffBy parts A B x = nat_abs (value x *ℤ pos B -ℤ A *ℤ pos (2 ^ 1074)) ≤ parts * 2 ^ 1021 * B

-- within so many parts of all partial sums at the angle X / W
abbrev pub CosineAt : ℕ → ℤ → ℕ → Float → Type 0
CosineAt parts X W x = (N : ℕ) → 11 ≤ N → OffBy parts (cosine_top X W N) (cosine_bottom W N) x

abbrev pub SineAt : ℕ → ℤ → ℕ → Float → Type 0
SineAt parts X W x = (N : ℕ) → 10 ≤ N → OffBy parts (sine_top X W N) (sine_bottom W N) x

-- ---- beyond: x less its turns, exactly. P / Q stands for 2π, which lies between these two
pub record TwoPi (P Q : ℕ) : Type 0 where
  pub base : 0 < Q
  pub least : two_pi * Q ≤ P * 2 ^ 110
  pub most : P * 2 ^ 110 ≤ (two_pi + 1) * Q

-- x - turns·P / Q, over Q·2 ^ 1074
abbrev pub left : Float → ℕ → ℕ → ℤ
left x P Q = value x *ℤ pos Q -ℤ turns x *ℤ pos (P * 2 ^ 1074)

-- an angle up to 2^20 in size whose rest after the first line is from -π/2 to π/2
pub record Facing (x : Float) : Type 0 where
  pub thick : Thick x
  pub rest : T (le (abs (reduce x)) half_pi)

-- or beyond
pub record Averted (x : Float) : Type 0 where
  pub thick : Thick x
  pub rest : T (lt half_pi (abs (reduce x)))

-- π less the angle, or -π less it where the rest is below zero, over 2·Q·2 ^ 1074: its sine is the angle's, and its cosine the opposite
abbrev pub across : Float → ℕ → ℕ → ℤ
across x P Q = signed (sgn (reduce x)) (P * 2 ^ 1074) -ℤ pos 2 *ℤ left x P Q

pub record TrigNear : Type 0 where
  -- every f64 from -π/2 to π/2
  pub cosine : (x : Float) → T (fits binary64 x) → T (le (abs x) half_pi) → CosineAt 7 (value x) (2 ^ 1074) (cos x)
  pub sine : (x : Float) → T (fits binary64 x) → T (le (abs x) half_pi) → SineAt 8 (value x) (2 ^ 1074) (sin x)
  -- an angle whose cosine is 0.25 at least, as the gate asks
  pub faces : (x : Float) → Thick x → T (le quarter (cos x)) → Facing x
  -- such an angle, less its turns
  pub cosine_facing : (x : Float) → Facing x → (P Q : ℕ) → TwoPi P Q → CosineAt 11 (left x P Q) (Q * 2 ^ 1074) (cos x)
  pub sine_facing : (x : Float) → Facing x → (P Q : ℕ) → TwoPi P Q → SineAt 13 (left x P Q) (Q * 2 ^ 1074) (sin x)
  -- every angle up to 2^20 in size is of that kind or of the other
  pub sides : (x : Float) → Thick x → Facing x ⊎ Averted x
  -- the other kind
  pub cosine_averted : (x : Float) → Averted x → (P Q : ℕ) → TwoPi P Q → CosineAt 17 (across x P Q) (2 * (Q * 2 ^ 1074)) (neg (cos x))
  pub sine_averted : (x : Float) → Averted x → (P Q : ℕ) → TwoPi P Q → SineAt 20 (across x P Q) (2 * (Q * 2 ^ 1074)) (sin x)
