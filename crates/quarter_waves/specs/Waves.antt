-- 02 slip 11: how many whole quarter waves a film's path has, and what is over. Definitions only.
use Rattle.std.specs.Prelude.{◌/◌, ◌%◌, ◌^◌, Bool, false, ◌&&◌, cond, Float}
use Rattle.std.specs.Float.{binary64}
use Rattle.std.specs.Float.Ieee.{round}
use Rattle.ieee.specs.Operators.{◌⊗◌, ◌⊘◌}
use Rattle.ieee.specs.Functions.{zero_f, one, four}
use Rattle.ieee.specs.Count.{count}
use Rattle.refusal.specs.Outcome.{Outcome, answer, refusal}
use Rattle.gate_limits.specs.Limits.{hundred_thousand, within, wavelength_passes}
use Rattle.quarter_waves.specs.declared.QuarterWaves.{QuarterWaves}

-- 'p be n·thickness, rounded once'
abbrev pub path : Float → Float → Float
path n thickness = n ⊗ thickness

-- 'q the wavelength / 4'
abbrev pub quarter_wave : Float → Float
quarter_wave wavelength = wavelength ⊘ four

-- 'the whole count and the remainder': p and q are whole counts of 2 ^ -1074, of which the quotient and the rest are taken. The rest is a
-- value of binary64, so that rounding leaves it as it is (specs/Claim.antt).
unfoldable pub divided : Float → Float → QuarterWaves
divided p q = record { count = count p / count q; remainder_nm = round binary64 false (count p % count q) (2 ^ 1074) }

-- 'the limits of 01's section 3': n 1 to 4, thickness 0 to 100,000, wavelength 100 to 10,000, ends included. A NaN is within none.
unfoldable pub admitted : Float → Float → Float → Bool
admitted n thickness wavelength = within one four n && (within zero_f hundred_thousand thickness && wavelength_passes wavelength)

-- '14, if n, thickness or wavelength is outside the limits'
unfoldable pub quarter_waves : Float → Float → Float → Outcome QuarterWaves
quarter_waves n thickness wavelength =
    cond (admitted n thickness wavelength) (answer (divided (path n thickness) (quarter_wave wavelength))) (refusal 14 0)
