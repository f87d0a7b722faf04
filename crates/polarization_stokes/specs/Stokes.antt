-- `StokesVector` of polarization.rs, method by method, in the Rust's order of operations. Definitions only.
use Rattle.std.specs.Prelude.{cond, Float}
use Rattle.std.specs.Float.{binary64}
use Rattle.std.specs.Float.Ieee.{neg, le, of_bits}
use Rattle.ieee.specs.Operators.{◌⊕◌, ◌⊗◌, ◌⊘◌}
use Rattle.ieee.specs.Functions.{zero_f, one, half, abs, max, clamp}
use Rattle.math_root.specs.Root.{sqrt}
use Rattle.math_atan.specs.Atan.{asin, atan2}
use Rattle.polarization_stokes.specs.declared.StokesVector.{StokesVector}

unfoldable pub unpolarized : Float → StokesVector
unpolarized intensity = record { s0 = max intensity zero_f; s1 = zero_f; s2 = zero_f; s3 = zero_f }

-- 1e-15
abbrev pub least_s0 : Float
least_s0 = of_bits binary64 0x3CD2_03AF_9EE7_5616

-- zero where s0 <= 1e-15
unfoldable pub guarded : StokesVector → Float → Float
guarded s x = cond (le s.s0 least_s0) zero_f x

-- DOP
unfoldable pub degree_of_polarization : StokesVector → Float
degree_of_polarization s = guarded s (clamp (sqrt (s.s1 ⊗ s.s1 ⊕ s.s2 ⊗ s.s2 ⊕ s.s3 ⊗ s.s3) ⊘ s.s0) zero_f one)

-- DOLP
unfoldable pub degree_of_linear_polarization : StokesVector → Float
degree_of_linear_polarization s = guarded s (clamp (sqrt (s.s1 ⊗ s.s1 ⊕ s.s2 ⊗ s.s2) ⊘ s.s0) zero_f one)

-- DOCP
unfoldable pub degree_of_circular_polarization : StokesVector → Float
degree_of_circular_polarization s = guarded s (clamp (abs s.s3 ⊘ s.s0) zero_f one)

unfoldable pub orientation_angle_rad : StokesVector → Float
orientation_angle_rad s = half ⊗ atan2 s.s2 s.s1

unfoldable pub ellipticity_angle_rad : StokesVector → Float
ellipticity_angle_rad s = guarded s (half ⊗ asin (clamp (s.s3 ⊘ s.s0) (neg one) one))
