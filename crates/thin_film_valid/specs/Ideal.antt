-- The responses of the ideal coatings of thin_film.rs, and with 02 slip 2's two numbers. Definitions only.
use Rattle.std.specs.Prelude.{Float}
use Rattle.std.specs.Float.{binary64}
use Rattle.std.specs.Float.Ieee.{neg}
use Rattle.ieee.specs.Functions.{zero_f, one, half}
use Rattle.math_root.specs.Root.{square_root}
use Rattle.math_trig.specs.Angles.{pi}
use Rattle.thin_film_complex.specs.Complex.{real, zero}
use Rattle.thin_film_solver.specs.declared.CoatingResponse.{CoatingResponse}
use Rattle.thin_film_solver.specs.declared.Polarized.{Polarized}
use Rattle.thin_film_solver.specs.Absorptance.{RustResponse, with_absorptance}
use Rattle.thin_film_solver.specs.Solve.{rust_respond}

-- R = 0, T = 1
abbrev pub rust_ideal_ar : RustResponse
rust_ideal_ar =
    let clear : Polarized = record { r = zero; t = real one; reflectance = zero_f; transmittance = one; phase = zero_f } in
    rust_respond clear clear

-- R = 1, T = 0: rs = -1, of phase π; rp = 1
abbrev pub mirrored : Float → Float → Polarized
mirrored r phase = record { r = real r; t = zero; reflectance = one; transmittance = zero_f; phase = phase }

abbrev pub rust_ideal_mirror : RustResponse
rust_ideal_mirror = rust_respond (mirrored (neg one) pi) (mirrored one zero_f)

-- R = 0.5, T = 0.5: every amplitude is the root of a half
abbrev pub rust_ideal_beamsplitter : RustResponse
rust_ideal_beamsplitter =
    let amp = real (square_root binary64 half) in
    let halved : Polarized = record { r = amp; t = amp; reflectance = half; transmittance = half; phase = zero_f } in
    rust_respond halved halved

-- ---- with the two numbers
abbrev pub ideal_ar : CoatingResponse
ideal_ar = with_absorptance rust_ideal_ar

abbrev pub ideal_mirror : CoatingResponse
ideal_mirror = with_absorptance rust_ideal_mirror

abbrev pub ideal_beamsplitter : CoatingResponse
ideal_beamsplitter = with_absorptance rust_ideal_beamsplitter
