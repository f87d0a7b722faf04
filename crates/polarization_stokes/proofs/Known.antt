-- Known answers of document 01, and a degree whose sum has an order, computed by the checker. Assumes nothing.
use mathlib.Core.Path.{◌≡◌, refl}
use mathlib.Core.Bool.{true}
use lib.Ieee.{Float, neg, add, sub, mul, div, lt, le, of_bits}
use Rattle.ieee.specs.Functions.{zero_f, one, two, clamp}
use Rattle.math_root.specs.Root.{square_root}
use Rattle.thin_film_complex.specs.Complex.{real}
use Rattle.polarization_stokes.specs.declared.JonesVector.{JonesVector}
use Rattle.polarization_stokes.specs.Stokes.{least_s0, guarded, degree_of_polarization, degree_of_linear_polarization, degree_of_circular_polarization}
use Rattle.polarization_stokes.specs.Jones.{circular_right, to_stokes}
use Rattle.polarization_stokes.specs.Known.{KnownDegrees}

-- (1, i)
abbrev pub one_i : JonesVector
one_i = record { ex = real one; ey = record { re = zero_f; im = one } }

-- its Stokes vector is (2, 0, 0, 2)
pub stokes_of_one_i : to_stokes one_i ≡ record { s0 = two; s1 = zero_f; s2 = zero_f; s3 = two }
unfolding to_stokes real add sub mul of_bits
stokes_of_one_i = refl

-- s0 = 1e-15: degree 0, whatever the others are
pub dark_degree : (s1 s2 s3 : Float) → degree_of_polarization (record { s0 = least_s0; s1 = s1; s2 = s2; s3 = s3 }) ≡ zero_f
unfolding degree_of_polarization guarded le lt of_bits
dark_degree s1 s2 s3 = refl

pub dark_linear_degree : (s1 s2 s3 : Float) → degree_of_linear_polarization (record { s0 = least_s0; s1 = s1; s2 = s2; s3 = s3 }) ≡ zero_f
unfolding degree_of_linear_polarization guarded le lt of_bits
dark_linear_degree s1 s2 s3 = refl

pub dark_circular_degree : (s1 s2 s3 : Float) → degree_of_circular_polarization (record { s0 = least_s0; s1 = s1; s2 = s2; s3 = s3 }) ≡ zero_f
unfolding degree_of_circular_polarization guarded le lt of_bits
dark_circular_degree s1 s2 s3 = refl

-- S3 of circular_right is below zero, though a comment of the Rust reads right as positive
pub right_is_negative : lt (to_stokes circular_right).s3 zero_f ≡ true
unfolding to_stokes circular_right real add sub mul lt neg of_bits
right_is_negative = refl

-- the order of the sum in a degree
pub known_degrees : KnownDegrees
unfolding degree_of_polarization guarded square_root clamp lt le add mul div of_bits
known_degrees = record { in_order = refl }
