-- 02 slip 14: bands whose answers are known. Types only; `proofs/Known.antt` computes them.
use Rattle.std.specs.Prelude.{◌≡◌, [], ◌∷◌, Float}
use Rattle.std.specs.Float.{binary64}
use Rattle.std.specs.Float.Ieee.{of_bits}
use Rattle.ieee.specs.Functions.{zero_f, one}
use Rattle.sheet.specs.Sheet.{Sheet}
use Rattle.band.specs.Band.{mean, powers}

-- a sheet without surfaces: s is -0 and p 0.75
abbrev pub nothing_met : Sheet
nothing_met =
    record { edition = 1; wavelength = 0x4080_0000_0000_0000; s = 0x8000_0000_0000_0000; p = 0x3FE8_0000_0000_0000; surfaces = [] }

-- s 1 and p 0.7
abbrev pub seven_tenths : Sheet
seven_tenths =
    record { edition = 1; wavelength = 0x4080_0000_0000_0000; s = 0x3FF0_0000_0000_0000; p = 0x3FE6_6666_6666_6666; surfaces = [] }

-- 500 and 600 nm
abbrev pub green : Float
green = of_bits binary64 0x407F_4000_0000_0000

abbrev pub orange : Float
orange = of_bits binary64 0x4082_C000_0000_0000

pub record KnownBand : Type 0 where
  -- 'onto +0': the mean of -0 is +0. Lines of 500 and 600 nm, of weights 1 and 3
  pub onto_zero : powers nothing_met (green ∷ orange ∷ []) (1 ∷ 3 ∷ []) ≡
      record { lines = 2; s = zero_f; p = of_bits binary64 0x3FE8_0000_0000_0000 }
  -- weights 2, 5 and 4: the weighed powers added up in another order, or divided before they are added, are 0.7 itself
  pub in_order : powers seven_tenths (green ∷ orange ∷ green ∷ []) (2 ∷ 5 ∷ 4 ∷ []) ≡
      record { lines = 3; s = one; p = of_bits binary64 0x3FE6_6666_6666_6667 }
  -- each weight with its own line: the mean of the wavelengths themselves, 1 of 500 nm and 3 of 600 nm, is 575
  pub paired : mean (λ st. st.wavelength_nm) nothing_met (green ∷ orange ∷ []) (1 ∷ 3 ∷ []) ≡ of_bits binary64 0x4081_F800_0000_0000
