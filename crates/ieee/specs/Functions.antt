-- The small borrowed functions of 01 section 2, and the constants that several crates share.
-- A constant is its bit pattern, as the compiler has it.
use Rattle.std.specs.Prelude.{ℕ, ◌+◌, ◌*◌, ◌^◌, Bool, true, false, not, ◌&&◌, cond, eqb, Float}
use Rattle.std.specs.Float.{nan, inf, fin, binary64}
use Rattle.std.specs.Float.Ieee.{lt, le, of_bits}
use Rattle.std.specs.Float.Ieee.Scale.{finite}
use Rattle.ieee.specs.Operators.{◌⊗◌}

-- +0
abbrev pub zero_f : Float
zero_f = of_bits binary64 0

-- 1
abbrev pub one : Float
one = of_bits binary64 0x3FF0_0000_0000_0000

-- 2
abbrev pub two : Float
two = of_bits binary64 0x4000_0000_0000_0000

-- 3
abbrev pub three : Float
three = of_bits binary64 0x4008_0000_0000_0000

-- 4
abbrev pub four : Float
four = of_bits binary64 0x4010_0000_0000_0000

-- 0.25
abbrev pub quarter : Float
quarter = of_bits binary64 0x3FD0_0000_0000_0000

-- 0.875, which the gate's limits hold the sine of the refracted light to (01 section 3)
abbrev pub seven_eighths : Float
seven_eighths = of_bits binary64 0x3FEC_0000_0000_0000

-- 0.5
abbrev pub half : Float
half = of_bits binary64 0x3FE0_0000_0000_0000

-- 1e-28: a denominator below it makes a quotient of thin_film.rs zero, and normalize of polarization.rs leaves a vector of up to that
-- intensity
abbrev pub tiny : Float
tiny = of_bits binary64 0x3A1F_B0F6_BE50_6019

-- -1
abbrev pub minus_one : Float
minus_one = of_bits binary64 0xBFF0_0000_0000_0000

-- an infinity
abbrev pub is_inf : Float → Bool
is_inf nan = false
is_inf (inf s) = true
is_inf (fin s m e) = false

-- a zero of either sign
abbrev pub is_zero : Float → Bool
is_zero nan = false
is_zero (inf s) = false
is_zero (fin s m e) = eqb m 0

-- what an index and a wavelength have to be: the Rust turns back !x.is_finite() || x <= 0.0
unfoldable pub finite_positive : Float → Bool
finite_positive x = finite x && not (le x zero_f)

-- 01 section 2: abs clears the sign bit
unfoldable pub abs : Float → Float
abs nan = nan
abs (inf s) = inf false
abs (fin s m e) = fin false m e

-- 01 section 2: max(a, b) is a if a > b, else b
unfoldable pub max : Float → Float → Float
max a b = cond (lt b a) a b

-- 01 section 2: clamp(x, lo, hi) is lo if x < lo, hi if x > hi, else x; a NaN stays
unfoldable pub clamp : Float → Float → Float → Float
clamp x lo hi = cond (lt x lo) lo (cond (lt hi x) hi x)

-- 01 section 2: powi(2) is x·x
abbrev pub powi2 : Float → Float
powi2 x = x ⊗ x

-- 01 section 2: powi(5) is x·((x·x)·(x·x))
abbrev pub powi5 : Float → Float
powi5 x = x ⊗ ((x ⊗ x) ⊗ (x ⊗ x))

-- 01 section 1: raw words, two to an f64 (bits, high word first)
abbrev pub joined : ℕ → ℕ → ℕ
joined high low = high * 2 ^ 32 + low

abbrev pub of_words : ℕ → ℕ → Float
of_words high low = of_bits binary64 (joined high low)
