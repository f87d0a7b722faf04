-- The angles that 01 section 2 names. T is 0x401921FB54442D18, and π is T/2.
use Rattle.std.specs.Prelude.{Float}
use Rattle.std.specs.Float.{binary64}
use Rattle.std.specs.Float.Ieee.{of_bits}

-- T, 6.283185307179586
abbrev pub tau : Float
tau = of_bits binary64 0x4019_21FB_5444_2D18

-- π, 3.141592653589793
abbrev pub pi : Float
pi = of_bits binary64 0x4009_21FB_5444_2D18

-- -π
abbrev pub minus_pi : Float
minus_pi = of_bits binary64 0xC009_21FB_5444_2D18

-- π/2, 1.5707963267948966
abbrev pub half_pi : Float
half_pi = of_bits binary64 0x3FF9_21FB_5444_2D18

-- -π/2
abbrev pub minus_half_pi : Float
minus_half_pi = of_bits binary64 0xBFF9_21FB_5444_2D18

-- π/4, 0.7853981633974483
abbrev pub quarter_pi : Float
quarter_pi = of_bits binary64 0x3FE9_21FB_5444_2D18

-- ---- 02 slip 7
-- T1, T with the low 28 bits of its significand cleared
abbrev pub tau_high : Float
tau_high = of_bits binary64 0x4019_21FB_5000_0000

-- t, 2.4492935982947064e-16
abbrev pub tau_low : Float
tau_low = of_bits binary64 0x3CB1_A626_3314_5C07

-- 2 ^ 20, 1,048,576
abbrev pub turns_limit : Float
turns_limit = of_bits binary64 0x4130_0000_0000_0000
