-- surface_coating_jones and surface_fresnel_jones of polarization.rs, in the Rust's order of operations. Definitions only.
use Rattle.std.specs.Prelude.{Bool, ◌&&◌, cond, eqb, Float}
use Rattle.std.specs.Float.Ieee.{neg, lt}
use Rattle.std.specs.Float.Ieee.Scale.{finite}
use Rattle.ieee.specs.Operators.{◌⊕◌, ◌⊖◌, ◌⊗◌, ◌⊘◌}
use Rattle.ieee.specs.Functions.{zero_f, one, two, finite_positive, abs, max, powi2}
use Rattle.math_root.specs.Root.{sqrt}
use Rattle.math_trig.specs.Trig.{sin, cos}
use Rattle.math_atan.specs.Atan.{atan}
use Rattle.thin_film_complex.specs.declared.Complex.{Complex}
use Rattle.thin_film_complex.specs.Complex.{real, zero}
use Rattle.refusal.specs.Outcome.{Outcome, answer, invalid_parameter}
use Rattle.thin_film_solver.specs.declared.CoatingResponse.{CoatingResponse}
use Rattle.polarization_mueller.specs.Jones.{diattenuator}
use Rattle.polarization.specs.declared.SurfaceJones.{SurfaceJones}

-- ---- surface_coating_jones
unfoldable pub surface_coating_jones : CoatingResponse → SurfaceJones
surface_coating_jones c = record { reflection = diattenuator c.rs c.rp; transmission = diattenuator c.ts c.tp }

-- ---- surface_fresnel_jones
-- what fails one of its five tests is InvalidParameter
unfoldable pub indices_valid : Float → Float → Float → Bool
indices_valid n1 n2 angle = finite_positive n1 && finite_positive n2 && finite angle

-- sqrt(sin_i^2 - (n2 / n1)^2)
unfoldable pub excess : Float → Float → Float → Float
excess n1 n2 sin-i = sqrt (sin-i ⊗ sin-i ⊖ powi2 (n2 ⊘ n1))

unfoldable pub rs_phase : Float → Float → Float → Float → Float
rs_phase n1 n2 sin-i cos-i = neg two ⊗ atan (excess n1 n2 sin-i ⊘ cos-i)

unfoldable pub rp_phase : Float → Float → Float → Float → Float
rp_phase n1 n2 sin-i cos-i = neg two ⊗ atan (powi2 (n1 ⊘ n2) ⊗ excess n1 n2 sin-i ⊘ cos-i)

-- cos + i sin of a phase
unfoldable pub phase_factor : Float → Complex
phase_factor phase = record { re = cos phase; im = sin phase }

-- total internal reflection: rs and rp have magnitude 1 and a phase, nothing is transmitted
unfoldable pub totally_reflected : Float → Float → Float → Float → SurfaceJones
totally_reflected n1 n2 sin-i cos-i = record {
  reflection = diattenuator (phase_factor (rs_phase n1 n2 sin-i cos-i)) (phase_factor (rp_phase n1 n2 sin-i cos-i));
  transmission = diattenuator zero zero;
}

-- cos_t = (1.0 - sin_t * sin_t).max(0.0).sqrt()
unfoldable pub cos_t : Float → Float
cos_t sin-t = sqrt (max (one ⊖ sin-t ⊗ sin-t) zero_f)

unfoldable pub refracted : Float → Float → Float → Float → SurfaceJones
refracted n1 n2 cos-i cos_t = record {
  reflection = diattenuator (real ((n1 ⊗ cos-i ⊖ n2 ⊗ cos_t) ⊘ (n1 ⊗ cos-i ⊕ n2 ⊗ cos_t)))
      (real ((n2 ⊗ cos-i ⊖ n1 ⊗ cos_t) ⊘ (n2 ⊗ cos-i ⊕ n1 ⊗ cos_t)));
  transmission = diattenuator (real ((two ⊗ n1 ⊗ cos-i) ⊘ (n1 ⊗ cos-i ⊕ n2 ⊗ cos_t)))
      (real ((two ⊗ n1 ⊗ cos-i) ⊘ (n2 ⊗ cos-i ⊕ n1 ⊗ cos_t)));
}

-- sin_t = (n1 * sin_i) / n2: total internal reflection where its size is above 1, not at 1
unfoldable pub bare : Float → Float → Float → Float → SurfaceJones
bare n1 n2 sin-i cos-i =
    let sin-t = n1 ⊗ sin-i ⊘ n2 in
    cond (lt one (abs sin-t)) (totally_reflected n1 n2 sin-i cos-i) (refracted n1 n2 cos-i (cos_t sin-t))

unfoldable pub surface_fresnel_jones : Float → Float → Float → Outcome SurfaceJones
surface_fresnel_jones n1 n2 angle = cond (indices_valid n1 n2 angle) (answer (bare n1 n2 (sin angle) (cos angle))) invalid_parameter
