-- Internal: the first line of x up to 2^20 in size as the code has it. A reader need not believe it.
use Rattle.std.specs.Prelude.{Float}
use Rattle.std.specs.Float.{binary64}
use Rattle.std.specs.Float.Ieee.{of_bits}
use Rattle.ieee.specs.Operators.{◌⊕◌, ◌⊖◌, ◌⊗◌, ◌⊘◌}
use Rattle.math_trig.specs.Angles.{tau, tau_high, tau_low}

-- 1.5 · 2^52: what is left of a sum with it is the nearest whole number
abbrev shift : Float
shift = of_bits binary64 0x4338_0000_0000_0000

-- T - T1
abbrev pub tau_rest : Float
tau_rest = of_bits binary64 0x3E71_10B4_6000_0000

unfoldable pub near_line : Float → Float
near_line x =
    let k = x ⊘ tau ⊕ shift ⊖ shift in
    x ⊖ k ⊗ tau_high ⊖ k ⊗ tau_rest ⊖ k ⊗ tau_low
