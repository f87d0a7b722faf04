-- 01 section 2: sin and cos at some angles, worked out apart. Types only; `proofs/Known.antt` computes them.
use Rattle.std.specs.Prelude.{◌≡◌, ℕ}
use Rattle.std.specs.Float.{binary64}
use Rattle.std.specs.Float.Ieee.{of_bits}
use Rattle.math_trig.specs.Trig.{sin, cos}

-- an angle and its sine or cosine by their bits
abbrev pub Sine : ℕ → ℕ → Type 0
Sine x s = sin (of_bits binary64 x) ≡ of_bits binary64 s

abbrev pub Cosine : ℕ → ℕ → Type 0
Cosine x c = cos (of_bits binary64 x) ≡ of_bits binary64 c

pub record KnownSines : Type 0 where
  -- sin's ten terms and cos's eleven: with one less or one more these differ
  pub ten_terms : Sine 0x3FF5_7201_D959_0FB7 0x3FEF_2769_1229_113E
  pub eleven_terms : Cosine 0x3FF6_3C54_CBDB_2857 0x3FC7_0CD6_440E_D66C
  -- beyond the folds: -2 and 2
  pub folded_sine : Sine 0xC000_0000_0000_0000 0xBFED_18F6_EAD1_B445
  pub folded_cosine : Cosine 0x4000_0000_0000_0000 0xBFDA_A226_5753_7208
