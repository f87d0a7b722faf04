-- Mueller matrices and what they do to a Stokes vector, worked out apart. Types only; `proofs/Known.antt` computes them.
use Rattle.std.specs.Prelude.{◌≡◌, List, [], ◌∷◌, ℕ, replicate, Float}
use Rattle.std.specs.Float.{binary64}
use Rattle.std.specs.Float.Ieee.{of_bits}
use Rattle.ieee.specs.Functions.{zero_f, one}
use Rattle.thin_film_complex.specs.declared.Complex.{Complex}
use Rattle.thin_film_complex.specs.Complex.{zero}
use Rattle.polarization_stokes.specs.declared.StokesVector.{StokesVector}
use Rattle.polarization_mueller.specs.declared.JonesMatrix.{JonesMatrix}
use Rattle.polarization_mueller.specs.declared.MuellerMatrix.{MuellerMatrix}
use Rattle.polarization_mueller.specs.Jones.{jones}
use Rattle.polarization_mueller.specs.Mueller.{entry, apply_mueller, to_mueller}

-- numbers by their bits
abbrev pub bits : ℕ → Float
bits x = of_bits binary64 x

abbrev pub complex : ℕ → ℕ → Complex
complex x y = record { re = bits x; im = bits y }

abbrev pub stokes : ℕ → ℕ → ℕ → ℕ → StokesVector
stokes s0 s1 s2 s3 = record { s0 = bits s0; s1 = bits s1; s2 = bits s2; s3 = bits s3 }

-- [[1 + 2i, 3 - i], [0.5 - i, 2 + i]]
abbrev pub plate : JonesMatrix
plate =
    jones (complex 0x3FF0_0000_0000_0000 0x4000_0000_0000_0000) (complex 0x4008_0000_0000_0000 0xBFF0_0000_0000_0000)
    (complex 0x3FE0_0000_0000_0000 0xBFF0_0000_0000_0000) (complex 0x4000_0000_0000_0000 0x3FF0_0000_0000_0000)

-- both amplitudes some 1.2e154: their squares are finite, and the sum of these is not
abbrev pub bright : JonesMatrix
bright = jones (complex 0x5FEC_A300_0000_0000 0) zero zero (complex 0x5FEC_A300_0000_0000 0)

-- 1 to 16, row after row
abbrev pub counting : MuellerMatrix
counting = record {
  m =
      bits 0x3FF0_0000_0000_0000 ∷ bits 0x4000_0000_0000_0000 ∷ bits 0x4008_0000_0000_0000 ∷ bits 0x4010_0000_0000_0000
      ∷ bits 0x4014_0000_0000_0000 ∷ bits 0x4018_0000_0000_0000 ∷ bits 0x401C_0000_0000_0000 ∷ bits 0x4020_0000_0000_0000
      ∷ bits 0x4022_0000_0000_0000 ∷ bits 0x4024_0000_0000_0000 ∷ bits 0x4026_0000_0000_0000 ∷ bits 0x4028_0000_0000_0000
      ∷ bits 0x402A_0000_0000_0000 ∷ bits 0x402C_0000_0000_0000 ∷ bits 0x402E_0000_0000_0000 ∷ bits 0x4030_0000_0000_0000 ∷ [];
}

abbrev pub minus_zeros : MuellerMatrix
minus_zeros = record { m = replicate 16 (bits 0x8000_0000_0000_0000) }

pub record KnownMueller : Type 0 where
  pub matrix : to_mueller plate ≡ record {
    m =
        bits 0x4025_4000_0000_0000 ∷ bits 0xC011_8000_0000_0000 ∷ bits 0x3FF0_0000_0000_0008 ∷ bits 0xC011_FFFF_FFFF_FFFF
        ∷ bits 0x4011_8000_0000_0000 ∷ bits 0xBFE4_0000_0000_0000 ∷ bits 0x3FF0_0000_0000_0008 ∷ bits 0xC023_0000_0000_0000
        ∷ bits 0x400C_0000_0000_0000 ∷ bits 0xC01A_0000_0000_0000 ∷ bits 0x401A_0000_0000_0002 ∷ bits 0xBFDF_FFFF_FFFF_FFF0
        ∷ bits 0x4008_0000_0000_0000 ∷ bits 0xC01C_0000_0000_0000 ∷ bits 0xC016_0000_0000_0000 ∷ bits 0xBFF7_FFFF_FFFF_FFFE ∷ [];
  }
  -- 0.5 * (x + y): the sum is infinite before it is halved
  pub sums_first : entry (to_mueller bright) 0 ≡ bits 0x7FF0_0000_0000_0000
  -- a row of 1 to 16 times (1, 10, 100, 1000): 4321, 8765, 13209, 17653
  pub rows : apply_mueller counting (stokes 0x3FF0_0000_0000_0000 0x4024_0000_0000_0000 0x4059_0000_0000_0000 0x408F_4000_0000_0000) ≡
      stokes 0x40B0_E100_0000_0000 0x40C1_1E80_0000_0000 0x40C9_CC80_0000_0000 0x40D1_3D40_0000_0000
  -- onto +0: products of -0 alone give +0
  pub onto_zero : apply_mueller minus_zeros (record { s0 = one; s1 = one; s2 = one; s3 = one }) ≡
      record { s0 = zero_f; s1 = zero_f; s2 = zero_f; s3 = zero_f }
