-- 02 slip 11: what some calls give, each computed in proofs/Known.antt. Definitions only.
-- Each constant stands here by its own bits, not by the name of the limit that it tries.
use Rattle.std.specs.Prelude.{◌≡◌, ℕ}
use Rattle.std.specs.Float.{binary64}
use Rattle.std.specs.Float.Ieee.{of_bits}
use Rattle.refusal.specs.Outcome.{Outcome, answer, refusal}
use Rattle.quarter_waves.specs.declared.QuarterWaves.{QuarterWaves}
use Rattle.quarter_waves.specs.Waves.{quarter_waves}

-- a call by the bits of n, thickness and wavelength
abbrev pub at : ℕ → ℕ → ℕ → Outcome QuarterWaves
at n thickness wavelength = quarter_waves (of_bits binary64 n) (of_bits binary64 thickness) (of_bits binary64 wavelength)

-- an answer by its count and the bits of its remainder
abbrev pub gives : ℕ → ℕ → Outcome QuarterWaves
gives count remainder = answer (record { count = count; remainder_nm = of_bits binary64 remainder })

pub record KnownWaves : Type 0 where
  -- n 2.307783427626831, thickness 30173.46609148967, wavelength 486.1: the rounded quotient is 573
  pub just_below : at 0x4002_7657_285F_43A1 0x40DD_775D_D471_6645 0x407E_6199_9999_999A ≡ gives 572 0x405E_6199_9999_97E8
  -- 1.5, 91.66666666666666, 550: without rounding p is below q
  pub rounded_up : at 0x3FF8_0000_0000_0000 0x4056_EAAA_AAAA_AAAA 0x4081_3000_0000_0000 ≡ gives 1 0
  -- the f64 before 25 in a wavelength of 100
  pub none : at 0x3FF0_0000_0000_0000 0x4038_FFFF_FFFF_FFFF 0x4059_0000_0000_0000 ≡ gives 0 0x4038_FFFF_FFFF_FFFF
  -- 4, 100,000, 100: the most
  pub most : at 0x4010_0000_0000_0000 0x40F8_6A00_0000_0000 0x4059_0000_0000_0000 ≡ gives 16000 0
  -- 1, 0, 10,000, and -0
  pub zero : at 0x3FF0_0000_0000_0000 0 0x40C3_8800_0000_0000 ≡ gives 0 0
  pub minus_zero : at 0x3FF0_0000_0000_0000 0x8000_0000_0000_0000 0x40C3_8800_0000_0000 ≡ gives 0 0
  -- one f64 beyond each limit, and a NaN in each place
  pub index_low : at 0x3FEF_FFFF_FFFF_FFFF 0 0x4059_0000_0000_0000 ≡ refusal 14 0
  pub index_high : at 0x4010_0000_0000_0001 0 0x4059_0000_0000_0000 ≡ refusal 14 0
  pub thickness_low : at 0x3FF0_0000_0000_0000 0x8000_0000_0000_0001 0x4059_0000_0000_0000 ≡ refusal 14 0
  pub thickness_high : at 0x3FF0_0000_0000_0000 0x40F8_6A00_0000_0001 0x4059_0000_0000_0000 ≡ refusal 14 0
  pub wavelength_low : at 0x3FF0_0000_0000_0000 0 0x4058_FFFF_FFFF_FFFF ≡ refusal 14 0
  pub wavelength_high : at 0x3FF0_0000_0000_0000 0 0x40C3_8800_0000_0001 ≡ refusal 14 0
  pub index_nan : at 0x7FF8_0000_0000_0000 0 0x4059_0000_0000_0000 ≡ refusal 14 0
  pub thickness_nan : at 0x3FF0_0000_0000_0000 0x7FF8_0000_0000_0000 0x4059_0000_0000_0000 ≡ refusal 14 0
  pub wavelength_nan : at 0x3FF0_0000_0000_0000 0 0x7FF8_0000_0000_0000 ≡ refusal 14 0
