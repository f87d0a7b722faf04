-- `JonesVector` of polarization.rs, method by method, in the Rust's order of operations. Definitions only.
use Rattle.std.specs.Prelude.{cond, Float}
use Rattle.std.specs.Float.{binary64}
use Rattle.std.specs.Float.Ieee.{neg, le, of_bits}
use Rattle.ieee.specs.Operators.{◌⊕◌, ◌⊘◌}
use Rattle.ieee.specs.Functions.{zero_f, one, tiny}
use Rattle.math_root.specs.Root.{sqrt}
use Rattle.thin_film_complex.specs.declared.Complex.{Complex}
use Rattle.thin_film_complex.specs.Complex.{real, zero, scale, norm_sq}
use Rattle.polarization_stokes.specs.declared.JonesVector.{JonesVector}
use Rattle.polarization_stokes.specs.declared.StokesVector.{StokesVector}
use Rattle.polarization_stokes.specs.BornWolf.{Number, in_parts, rounded}

unfoldable pub linear_horizontal : JonesVector
linear_horizontal = record { ex = real one; ey = zero }

unfoldable pub linear_vertical : JonesVector
linear_vertical = record { ex = zero; ey = real one }

-- FRAC_1_SQRT_2, 0.7071067811865476
abbrev pub inv_sqrt2 : Float
inv_sqrt2 = of_bits binary64 0x3FE6_A09E_667F_3BCD

unfoldable pub linear_45 : JonesVector
linear_45 = record { ex = real inv_sqrt2; ey = real inv_sqrt2 }

-- (1, -i) / sqrt(2)
unfoldable pub circular_right : JonesVector
circular_right = record { ex = real inv_sqrt2; ey = record { re = zero_f; im = neg inv_sqrt2 } }

-- (1, i) / sqrt(2)
unfoldable pub circular_left : JonesVector
circular_left = record { ex = real inv_sqrt2; ey = record { re = zero_f; im = inv_sqrt2 } }

-- |Ex|^2 + |Ey|^2
unfoldable pub intensity : JonesVector → Float
intensity v = norm_sq v.ex ⊕ norm_sq v.ey

-- as it is where the intensity is at most 1e-28
unfoldable pub normalize : JonesVector → JonesVector
normalize v =
    let inv = one ⊘ sqrt (intensity v) in
    cond (le (intensity v) tiny) v (record { ex = scale v.ex inv; ey = scale v.ey inv })

-- a component by its parts
abbrev pub number : Complex → Number Float
number z = record { re = z.re; im = z.im }

-- Born and Wolf's parameters written out in parts, every operation rounded
unfoldable pub to_stokes : JonesVector → StokesVector
to_stokes v =
    let s = in_parts rounded (number v.ex) (number v.ey) in
    record { s0 = s.s0; s1 = s.s1; s2 = s.s2; s3 = s.s3 }
