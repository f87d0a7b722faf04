-- 02 slip 8: matrices worked out apart, which show the signs of zeros and the order of sums. Types only; `proofs/Known.antt` computes them.
use Rattle.std.specs.Prelude.{◌≡◌, [], ◌∷◌, ℕ, Float}
use Rattle.std.specs.Float.{binary64}
use Rattle.std.specs.Float.Ieee.{of_bits}
use Rattle.thin_film_complex.specs.Complex.{zero}
use Rattle.polarization_mueller.specs.declared.JonesMatrix.{JonesMatrix}
use Rattle.polarization_mueller.specs.Jones.{jones}
use Rattle.polarization_mueller.specs.Mueller.{entry}
use Rattle.polarization_born_wolf.specs.Conversion.{complex, to_mueller_born_wolf}

-- +0 and -0
abbrev pub naught : Float
naught = of_bits binary64 0

abbrev pub minus_naught : Float
minus_naught = of_bits binary64 0x8000_0000_0000_0000

abbrev pub infinity : Float
infinity = of_bits binary64 0x7FF0_0000_0000_0000

-- a Jones matrix of zeros: with any part of the six beams that is not named made -0, a zero of its Mueller matrix has the other sign
abbrev pub dark : JonesMatrix
dark =
    jones (complex minus_naught naught) (complex naught minus_naught)
    (complex minus_naught minus_naught) (complex minus_naught minus_naught)

-- an amplitude by its bits, for x and for y
abbrev pub bright : ℕ → JonesMatrix
bright a = jones (complex (of_bits binary64 a) naught) zero zero (complex (of_bits binary64 a) naught)

pub record KnownBornWolf : Type 0 where
  -- 'parts not named are +0'
  pub unnamed_parts : to_mueller_born_wolf dark ≡ record {
    m =
        naught ∷ naught ∷ naught ∷ naught
        ∷ naught ∷ naught ∷ naught ∷ naught
        ∷ naught ∷ naught ∷ naught ∷ naught
        ∷ minus_naught ∷ naught ∷ minus_naught ∷ minus_naught ∷ [];
  }
  -- 'half the sum': of 1.2e154 the sum is infinite before it is halved
  pub halves_last : entry (to_mueller_born_wolf (bright 0x5FEC_A300_0000_0000)) 0 ≡ infinity
  -- 'a quarter of the difference': of 0.9e154 the difference is infinite before it is quartered
  pub quarters_last : entry (to_mueller_born_wolf (bright 0x5FE5_7A00_0000_0000)) 10 ≡ infinity
