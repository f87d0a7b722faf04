-- 01 section 2: atan, asin and atan2 at some arguments, worked out apart. Types only; `proofs/Known.antt` computes them.
use Rattle.std.specs.Prelude.{◌≡◌, ℕ}
use Rattle.std.specs.Float.{binary64}
use Rattle.std.specs.Float.Ieee.{of_bits}
use Rattle.math_atan.specs.Atan.{atan, asin, atan2}

-- arguments and answer by their bits
abbrev pub Atan : ℕ → ℕ → Type 0
Atan x v = atan (of_bits binary64 x) ≡ of_bits binary64 v

abbrev pub Atan2 : ℕ → ℕ → ℕ → Type 0
Atan2 y x v = atan2 (of_bits binary64 y) (of_bits binary64 x) ≡ of_bits binary64 v

pub record KnownAtan : Type 0 where
  -- 'for m = 12 down to 0': without m = 12 the first differs, and with m = 13 the second
  pub all_terms : Atan 0x3FF1_28C6_CB11_7802 0x3FEA_4044_1D2B_5682
  pub no_more_terms : Atan 0x3FEC_19DD_EFB0_A2A2 0x3FE7_0F48_628A_2C5F
  -- asin of 0.75
  pub arcsine : asin (of_bits binary64 0x3FE8_0000_0000_0000) ≡ of_bits binary64 0x3FEB_2353_15C6_80DB
  -- 'Both infinite: π/4, or 3·(π/4) for x negative', with the sign of y
  pub plus_plus : Atan2 0x7FF0_0000_0000_0000 0x7FF0_0000_0000_0000 0x3FE9_21FB_5444_2D18
  pub plus_minus : Atan2 0x7FF0_0000_0000_0000 0xFFF0_0000_0000_0000 0x4002_D97C_7F33_21D2
  pub minus_plus : Atan2 0xFFF0_0000_0000_0000 0x7FF0_0000_0000_0000 0xBFE9_21FB_5444_2D18
  pub minus_minus : Atan2 0xFFF0_0000_0000_0000 0xFFF0_0000_0000_0000 0xC002_D97C_7F33_21D2
  -- 'y zero or only x infinite: 0 if x's sign bit is clear, else π'; -0 has it set
  pub zeros : Atan2 0 0 0
  pub zero_over_minus_zero : Atan2 0 0x8000_0000_0000_0000 0x4009_21FB_5444_2D18
  pub one_over_minus_infinity : Atan2 0x3FF0_0000_0000_0000 0xFFF0_0000_0000_0000 0x4009_21FB_5444_2D18
  -- 'x zero or only y infinite: π/2'
  pub one_over_minus_zero : Atan2 0x3FF0_0000_0000_0000 0x8000_0000_0000_0000 0x3FF9_21FB_5444_2D18
  pub infinity_over_minus_one : Atan2 0x7FF0_0000_0000_0000 0xBFF0_0000_0000_0000 0x3FF9_21FB_5444_2D18
