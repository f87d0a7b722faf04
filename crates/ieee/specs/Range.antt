-- What a range of floats is, over whole numbers. Definitions only; the laws are in proofs/Range.
-- A finite x has the size `num x / den x`, a fraction of whole numbers. A bound is a fraction p / 2 ^ j.
use Rattle.std.specs.Prelude.{◌≡◌, ℕ, suc, ◌*◌, ◌^◌, ◌≤◌, ◌<◌, Bool, false, not, ◌&&◌, T, ltb, leb, Float}
use Rattle.std.specs.Float.{nan, inf, fin, Format}
use Rattle.std.specs.Float.Ieee.{prec, emax, low}
use Rattle.std.specs.Float.Ieee.Scale.{finite}
use Rattle.std.specs.Float.Ieee.Positive.{num, den}

-- the sign bit; a NaN's counts as clear
abbrev pub sgn : Float → Bool
sgn nan = false
sgn (inf s) = s
sgn (fin s m e) = s

-- no NaN, and the sign is clear
abbrev pub clear : Float → Bool
clear nan = false
clear (inf s) = not s
clear (fin s m e) = not s

-- finite, and the sign is clear: +0 counts, -0 does not
abbrev pub plus : Float → Bool
plus nan = false
plus (inf s) = false
plus (fin s m e) = not s

-- finite, and |x| ≤ p / 2 ^ j
pub record Mag (p j : ℕ) (x : Float) : Type 0 where
  pub fine : T (finite x)
  pub most : num x * 2 ^ j ≤ p * den x

-- finite, the sign is clear, and a / 2 ^ i ≤ x ≤ p / 2 ^ j
pub record In (a i p j : ℕ) (x : Float) : Type 0 where
  pub sign : T (plus x)
  pub least : a * den x ≤ num x * 2 ^ i
  pub most : num x * 2 ^ j ≤ p * den x

-- finite, of either sign, and a / 2 ^ i ≤ |x| ≤ p / 2 ^ j
pub record Size (a i p j : ℕ) (x : Float) : Type 0 where
  pub fine : T (finite x)
  pub least : a * den x ≤ num x * 2 ^ i
  pub most : num x * 2 ^ j ≤ p * den x

-- finite, and |x| ≤ 2 ^ k, for a k that need not be a numeral
pub record Pow (k : ℕ) (x : Float) : Type 0 where
  pub fine : T (finite x)
  pub most : num x ≤ 2 ^ k * den x

-- the format f holds p / 2 ^ j: p is q * 2 ^ i, for a q of no more digits than f keeps
pub record Rep (f : Format) (p j : ℕ) : Type 0 where
  pub q : ℕ
  pub i : ℕ
  pub few : q < 2 ^ prec f
  pub is : p ≡ q * 2 ^ i
  pub deep : j ≤ low f
  pub under : p < 2 ^ suc (emax f) * 2 ^ j

-- ---- tests on bounds, which compute to true at numerals
-- an f64 holds p / 2 ^ j
abbrev pub holds : ℕ → ℕ → Bool
holds p j = ltb p (2 ^ 53) && leb j 1074

-- p / 2 ^ j ≤ q / 2 ^ k
abbrev pub wider : ℕ → ℕ → ℕ → ℕ → Bool
wider p j q k = leb (p * 2 ^ k) (q * 2 ^ j)

-- P / Q ≤ p / 2 ^ j, which an f64 holds
abbrev pub at_most : ℕ → ℕ → ℕ → ℕ → Bool
at_most P Q p j = leb (P * 2 ^ j) (p * Q) && holds p j

-- a / 2 ^ i, which an f64 holds, is ≤ A / B
abbrev pub at_least : ℕ → ℕ → ℕ → ℕ → Bool
at_least A B a i = leb (a * B) (A * 2 ^ i) && holds a i

-- `Mag` and `In` as tests, for constants
abbrev pub magb : ℕ → ℕ → Float → Bool
magb p j x = finite x && leb (num x * 2 ^ j) (p * den x)

abbrev pub inb : ℕ → ℕ → ℕ → ℕ → Float → Bool
inb a i p j x = plus x && (leb (a * den x) (num x * 2 ^ i) && leb (num x * 2 ^ j) (p * den x))
