-- Further answers that were worked out from document 01 and the Rust, beside those that 01 stars: at the ends of guards, of ranges of bytes
-- and of searches. One proposition, computed.
-- Each constant stands here by its own bits, not by the name of the guard that it tries.
use Rattle.std.specs.Prelude.{◌≡◌, List, [], ◌∷◌, ℕ, replicate, Float, None, Some, Result, Err}
use Rattle.std.specs.Float.{binary64}
use Rattle.std.specs.Float.Ieee.{of_bits}
use Rattle.ieee.specs.Functions.{zero_f, one, quarter}
use Rattle.thin_film_complex.specs.declared.Complex.{Complex}
use Rattle.thin_film_complex.specs.Complex.{real, zero, div}
use Rattle.refusal.specs.declared.Refusal.{Refusal}
use Rattle.refusal.specs.declared.Refusal.TheVariants.{InvalidParameter}
use Rattle.refusal.specs.Outcome.{answer, refusal, outcome}
use Rattle.thin_film.specs.declared.SurfaceCoating.TheVariants as S
use Rattle.thin_film.specs.Coating.{mgf2_default}
use Rattle.fresnel.specs.Fresnel.{fresnel_dielectric}
use Rattle.polarization_stokes.specs.declared.JonesVector.{JonesVector}
use Rattle.polarization_stokes.specs.Stokes.{degree_of_polarization}
use Rattle.polarization_stokes.specs.Jones.{normalize}
use Rattle.polarization.specs.declared.SurfaceJones.{SurfaceJones}
use Rattle.polarization.specs.Surface.{surface_fresnel_jones}
use Rattle.name_bytes.specs.Trim.{trimmed}
use Rattle.name_bytes.specs.Ascii.{upper_byte}
use Rattle.name_coating.specs.Name.{from_format_name}

-- 1e-14, whose square is the f64 1e-28, and the f64 before and after it
abbrev pub edge : Float
edge = of_bits binary64 0x3D06_849B_86A1_2B9B

abbrev pub under_edge : Float
under_edge = of_bits binary64 0x3D06_849B_86A1_2B9A

abbrev pub over_edge : Float
over_edge = of_bits binary64 0x3D06_849B_86A1_2B9C

-- light along x alone
abbrev pub along_x : Float → JonesVector
along_x x = record { ex = real x; ey = zero }

pub record FurtherAnswers : Type 0 where
  -- fresnel_dielectric: a denominator of 5e-30 counts, and so does 1e-30 itself; the f64 below it makes a power zero
  pub faint : fresnel_dielectric one (of_bits binary64 0x39B4_484B_FEEB_C2A0) (of_bits binary64 0x39D4_484B_FEEB_C2A0) ≡
      record { rs = of_bits binary64 0x3FD7_0A3D_70A3_D70A; rp = of_bits binary64 0x3FD7_0A3D_70A3_D70A }
  pub faintest : fresnel_dielectric one (of_bits binary64 0x3994_484B_FEEB_C2A0) (of_bits binary64 0x39AE_6C71_FE61_A3F0) ≡
      record { rs = quarter; rp = quarter }
  pub too_faint : fresnel_dielectric one (of_bits binary64 0x3994_484B_FEEB_C29C) (of_bits binary64 0x39AE_6C71_FE61_A3F0) ≡
      record { rs = zero_f; rp = zero_f }
  -- complex division: a denominator of 1e-28 itself counts (1e14), the next below makes the quotient zero
  pub quotient_at_edge : div (real one) (real edge) ≡ real (of_bits binary64 0x42D6_BCC4_1E90_0000)
  pub quotient_under_edge : div (real one) (real under_edge) ≡ zero
  -- normalize: an intensity of 1e-28 itself leaves the vector, one above it does not
  pub normalized_at_edge : normalize (along_x edge) ≡ along_x edge
  pub normalized_over_edge : normalize (along_x over_edge) ≡ along_x one
  -- degrees: above 1e-15 there is one
  pub degree_over_edge : degree_of_polarization
      (record { s0 = of_bits binary64 0x3CD2_03AF_9EE7_5617; s1 = of_bits binary64 0x3CD2_03AF_9EE7_5617; s2 = zero_f; s3 = zero_f }) ≡ one
  -- what stands beside a refusal of surface_fresnel_jones, as for an index of zero: nothing
  pub no_index : surface_fresnel_jones zero_f one zero_f ≡ refusal 1 0
  pub beside_a_refusal : (r : Result SurfaceJones Refusal) → outcome r ≡ refusal 1 0 → r ≡ Err InvalidParameter
  -- upper case: a to z alone, so neither the byte before nor the one behind
  pub before_a : upper_byte 96 ≡ 96
  pub upper_a : upper_byte 97 ≡ 65
  pub upper_z : upper_byte 122 ≡ 90
  pub behind_z : upper_byte 123 ≡ 123
  -- trim: 0x09 to 0x0D and 0x20, and no other byte
  pub blanks : trimmed (9 ∷ 10 ∷ 11 ∷ 12 ∷ 13 ∷ 32 ∷ 65 ∷ 32 ∷ 13 ∷ 12 ∷ 11 ∷ 10 ∷ 9 ∷ []) ≡ 65 ∷ []
  pub no_blanks : trimmed (8 ∷ 14 ∷ 31 ∷ 33 ∷ 160 ∷ 31 ∷ 14 ∷ 8 ∷ []) ≡ 8 ∷ 14 ∷ 31 ∷ 33 ∷ 160 ∷ 31 ∷ 14 ∷ 8 ∷ []
  -- names: byte 127 is ASCII, 128 is not; the length comes first; "MGF2" is sought before "BBAR", that before a mirror's names, those
  -- before "AR"
  pub last_ascii : from_format_name (127 ∷ []) ≡ answer (Some S.IdealAr)
  pub over_ascii : from_format_name (65 ∷ 128 ∷ []) ≡ refusal 2 1
  pub longest : from_format_name (replicate 32 65) ≡ answer (Some S.IdealAr)
  pub too_long : from_format_name (replicate 33 200) ≡ refusal 2 32
  pub blank_name : from_format_name (32 ∷ 32 ∷ []) ≡ answer None
  pub bbar_mgf2 : from_format_name (98 ∷ 98 ∷ 97 ∷ 114 ∷ 109 ∷ 103 ∷ 102 ∷ 50 ∷ []) ≡ answer (Some mgf2_default)
  pub refl_bbar : from_format_name (82 ∷ 69 ∷ 70 ∷ 76 ∷ 98 ∷ 98 ∷ 97 ∷ 114 ∷ []) ≡ answer (Some S.BroadbandAr)
  pub he_ne : from_format_name (104 ∷ 101 ∷ 45 ∷ 110 ∷ 101 ∷ []) ≡ answer (Some S.BroadbandAr)
  pub ar_refl : from_format_name (97 ∷ 114 ∷ 82 ∷ 69 ∷ 70 ∷ 76 ∷ []) ≡ answer (Some S.HighReflectanceMirror)
  pub hr : from_format_name (104 ∷ 114 ∷ []) ≡ answer (Some S.HighReflectanceMirror)
  pub mirror_2 : from_format_name (77 ∷ 73 ∷ 82 ∷ 82 ∷ 79 ∷ 82 ∷ 50 ∷ []) ≡ answer (Some S.IdealAr)
