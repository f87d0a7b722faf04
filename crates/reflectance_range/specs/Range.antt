-- 02, slip 9: which two floats are given for a bare surface met head-on, both indices known as ranges. Definitions only.
use Rattle.std.specs.Prelude.{Bool, ◌&&◌, cond, Float}
use Rattle.std.specs.Float.{binary64}
use Rattle.std.specs.Float.Ieee.{lt, le, of_bits}
use Rattle.ieee.specs.Operators.{◌⊗◌}
use Rattle.ieee.specs.Functions.{zero_f, one, four, max}
use Rattle.refusal.specs.Outcome.{Outcome, answer, refusal}
use Rattle.fresnel.specs.Fresnel.{fresnel_dielectric}
use Rattle.reflectance_range.specs.declared.ReflectanceRange.{ReflectanceRange}

-- 'an end that is NaN or outside 1 to 4' fails it
unfoldable pub index_valid : Float → Bool
index_valid n = le one n && le n four

-- and so does 'a low above its high'
unfoldable pub range_valid : Float → Float → Bool
range_valid low high = index_valid low && (index_valid high && le low high)

-- ---- one pair of indices
-- what fresnel_dielectric gives head-on
unfoldable pub head_on : Float → Float → Float
head_on n1 n2 = (fresnel_dielectric one n1 n2).rs

-- 1 + 2^-49 and 1 - 2^-49: more than its roundings can amount to
abbrev pub a_little_more : Float
a_little_more = of_bits binary64 0x3FF0_0000_0000_0008

abbrev pub a_little_less : Float
a_little_less = of_bits binary64 0x3FEF_FFFF_FFFF_FFF0

unfoldable pub upper : Float → Float → Float
upper n1 n2 = head_on n1 n2 ⊗ a_little_more

unfoldable pub lower : Float → Float → Float
lower n1 n2 = head_on n1 n2 ⊗ a_little_less

-- ---- two ranges
-- the reflectance is largest at one of the two corners where the indices are farthest apart
unfoldable pub high : Float → Float → Float → Float → Float
high n1-low n1-high n2-low n2-high = max (upper n1-high n2-low) (upper n1-low n2-high)

-- and smallest where they are nearest; 'Overlapping ranges have a true minimum of 0'
unfoldable pub low : Float → Float → Float → Float → Float
low n1-low n1-high n2-low n2-high =
    cond (lt n1-high n2-low) (lower n1-high n2-low) (cond (lt n2-high n1-low) (lower n1-low n2-high) zero_f)

unfoldable pub reflectance_range : Float → Float → Float → Float → Outcome ReflectanceRange
reflectance_range n1-low n1-high n2-low n2-high =
    cond (range_valid n1-low n1-high && range_valid n2-low n2-high)
    (answer (record { low = low n1-low n1-high n2-low n2-high; high = high n1-low n1-high n2-low n2-high }))
    (refusal 13 0)
