-- 02 slip 7: what the new first line is worth, one type. Definitions only; proofs/Claim.antt has the proof.
use Rattle.std.specs.Prelude.{◌≡◌, ℕ, ◌+◌, ◌*◌, ◌^◌, ◌≤◌, ◌<◌, T, ℤ, pos, nat_abs, ◌-ℤ◌, ◌*ℤ◌, Float}
use Rattle.std.specs.Float.{binary64}
use Rattle.std.specs.Float.Ieee.{fits, neg, rem, le}
use Rattle.std.specs.Float.Ieee.Scale.{finite}
use Rattle.ieee.specs.Operators.{◌⊖◌, ◌⊗◌, ◌⊘◌}
use Rattle.ieee.specs.Functions.{abs}
use Rattle.ieee.specs.Range.{sgn, Mag}
use Rattle.ieee.specs.Count.{count}
use Rattle.whole_f64.specs.Whole.{signed, Is}
use Rattle.whole_nearest.specs.Nearest.{nearest_size, nearest_whole}
use Rattle.math_trig.specs.Angles.{tau, pi, tau_high, turns_limit}
use Rattle.math_trig.specs.Trig.{reduce, first_line, sin, cos}
use Rattle.math_trig.specs.Opposite.{Opposite}

-- an f64 of 'abs x at most 2^20'
pub record Thick (x : Float) : Type 0 where
  pub held : T (fits binary64 x)
  pub most : T (le (abs x) turns_limit)

-- k, as a float and as a whole number
abbrev pub k : Float → Float
k x = nearest_whole (x ⊘ tau)

abbrev pub turns : Float → ℤ
turns x = signed (sgn x) (nearest_size (x ⊘ tau))

-- ---- why the line works
-- T1 and T - T1 in units of 2 ^ -51
abbrev pub high_count : ℕ
high_count = 26353589 * 2 ^ 29

abbrev pub rest_count : ℕ
rest_count = 8947107 * 2 ^ 4

-- x is a whole number X of 2 ^ -51, and k·T1, k·(T - T1) and both differences are what they are for whole numbers: nothing is lost
pub record Exact (x : Float) : Type 0 where
  pub X : ℤ
  pub is : Is 51 x X
  pub high : Is 51 (k x ⊗ tau_high) (turns x *ℤ pos high_count)
  pub rest : Is 51 (k x ⊗ (tau ⊖ tau_high)) (turns x *ℤ pos rest_count)
  pub first : Is 51 (x ⊖ k x ⊗ tau_high) (X -ℤ turns x *ℤ pos high_count)
  pub second : Is 51 (x ⊖ k x ⊗ tau_high ⊖ k x ⊗ (tau ⊖ tau_high)) (X -ℤ turns x *ℤ pos (high_count + rest_count))

-- ---- how near r is: each f64 is a whole count of 2 ^ -1074, with its sign
abbrev pub value : Float → ℤ
value x = signed (sgn x) (count x)

-- 2π lies between two-pi and two-pi + 1, in units of 2 ^ -110: 0x6.487ED5110B4611A62633145C06E0..
abbrev pub two_pi : ℕ
two_pi = 0x1921_fb54_442d_1846_9898_cc51_701b8

-- |r - (x - k·turn)|, in counts; a turn is so many 2 ^ -110
abbrev pub off : ℕ → Float → ℕ
off turn x = nat_abs (value (reduce x) -ℤ (value x -ℤ turns x *ℤ pos (turn * 2 ^ 964)))

-- 2 ^ -52 and 5,529,392·2 ^ -110, some 2.2204460493e-16, in counts
abbrev pub most_off : ℕ
most_off = (2 ^ 58 + 5529392) * 2 ^ 964

pub record PhaseClaim : Type 0 where
  -- 'both still answer within -1..1 for every finite x'
  pub sin_within : (x : Float) → T (finite x) → Mag 1 0 (sin x)
  pub cos_within : (x : Float) → T (finite x) → Mag 1 0 (cos x)
  -- cos is even in every bit; sin is odd, or both are +0
  pub even : (x : Float) → cos (neg x) ≡ cos x
  pub odd : (x : Float) → Opposite (sin x) (sin (neg x))
  -- at most 166,886 turns; without one r is x, and so up to π all is as with the old line
  pub few : (x : Float) → Thick x → nat_abs (turns x) ≤ 166886
  pub none : (x : Float) → Thick x → turns x ≡ pos 0 → reduce x ≡ x
  pub as_before : (x : Float) → T (fits binary64 x) → T (le (abs x) pi) → first_line x ≡ rem binary64 x tau
  -- with one, nothing is lost before k·t
  pub exact : (x : Float) → Thick x → 0 < nat_abs (turns x) → Exact x
  -- |r| ≤ π + 354,200 / 2 ^ 51
  pub size : (x : Float) → Thick x → Mag (7074237752028440 + 354200) 51 (reduce x)
  -- and r is within 2.2204460493e-16 of x - k·2π, however large k is
  pub near : (x : Float) → Thick x → (turn : ℕ) → two_pi ≤ turn → turn ≤ two_pi + 1 → off turn x ≤ most_off
