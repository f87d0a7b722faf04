-- 01, 'Known answers': all that are starred, as one proposition over the definitions that the contracts cite.
use Rattle.std.specs.Prelude.{◌≡◌, true, [], ◌∷◌, Float, None, Some}
use Rattle.std.specs.Float.{binary64}
use Rattle.std.specs.Float.Ieee.{of_bits}
use Rattle.ieee.specs.Functions.{zero_f, one, two, three, quarter, half, finite_positive}
use Rattle.math_root.specs.Root.{sqrt}
use Rattle.math_trig.specs.Angles.{pi}
use Rattle.thin_film_complex.specs.Complex.{real, zero, div}
use Rattle.refusal.specs.Outcome.{answer}
use Rattle.thin_film_coating.specs.declared.Coating.TheVariants as C
use Rattle.thin_film.specs.declared.SurfaceCoating.TheVariants as S
use Rattle.thin_film.specs.Coating.{mgf2_default}
use Rattle.thin_film.specs.Evaluate.{evaluate_surface}
use Rattle.fresnel.specs.Fresnel.{fresnel_dielectric, schlick_approx}
use Rattle.polarization_stokes.specs.Stokes.{degree_of_polarization, degree_of_linear_polarization, degree_of_circular_polarization}
use Rattle.polarization_stokes.specs.Jones.{to_stokes}
use Rattle.name_coating.specs.Name.{from_format_name}

-- -0.5
abbrev pub minus_half : Float
minus_half = of_bits binary64 0xBFE0_0000_0000_0000

-- 0.75
abbrev pub three_quarters : Float
three_quarters = of_bits binary64 0x3FE8_0000_0000_0000

-- 1e-15, by its own bits and not by the constant of the guard that it tries
abbrev pub dark : Float
dark = of_bits binary64 0x3CD2_03AF_9EE7_5616

pub record KnownAnswers : Type 0 where
  -- sqrt(2^-1074) = 2^-537
  pub smallest_root : sqrt (of_bits binary64 1) ≡ of_bits binary64 0x1E60_0000_0000_0000
  -- sqrt(-0) = -0
  pub root_of_minus_zero : sqrt (of_bits binary64 0x8000_0000_0000_0000) ≡ of_bits binary64 0x8000_0000_0000_0000
  -- 1 / 2^-46 complex = 2^46
  pub quotient : div (real one) (real (of_bits binary64 0x3D10_0000_0000_0000)) ≡ real (of_bits binary64 0x42D0_0000_0000_0000)
  -- 1 / 2^-47 = 0
  pub guarded_quotient : div (real one) (real (of_bits binary64 0x3D00_0000_0000_0000)) ≡ zero
  -- Custom, no layers, 1 to 3, angle 0, at every wavelength that is admitted: rs = rp = -0.5, ts = tp = 0.5, R = 0.25, T = 0.75, phases π
  -- (and 02 slip 2's two numbers, +0)
  pub no_layers : (wavelength : Float) → finite_positive wavelength ≡ true →
      evaluate_surface (S.Custom C.Multilayer) [] one three zero_f wavelength ≡ answer (record {
        rs = real minus_half;
        rp = real minus_half;
        ts = real half;
        tp = real half;
        reflectance_s = quarter;
        reflectance_p = quarter;
        transmittance_s = three_quarters;
        transmittance_p = three_quarters;
        phase_rs_rad = pi;
        phase_rp_rad = pi;
        absorptance_s = zero_f;
        absorptance_p = zero_f;
      })
  -- fresnel_dielectric(1,1,3) = (0.25,0.25); (0,1,1) = (1,1)
  pub straight : fresnel_dielectric one one three ≡ record { rs = quarter; rp = quarter }
  pub grazing : fresnel_dielectric zero_f one one ≡ record { rs = one; rp = one }
  -- schlick_approx(0,1,3) = 1
  pub schlick : schlick_approx zero_f one three ≡ one
  -- Jones (1, i): Stokes (2,0,0,2)
  pub stokes : to_stokes (record { ex = real one; ey = record { re = zero_f; im = one } }) ≡
      record { s0 = two; s1 = zero_f; s2 = zero_f; s3 = two }
  -- s0 = 1e-15: degree 0, each of the three
  pub degree : (s1 s2 s3 : Float) → degree_of_polarization (record { s0 = dark; s1 = s1; s2 = s2; s3 = s3 }) ≡ zero_f
  pub linear_degree : (s1 s2 s3 : Float) → degree_of_linear_polarization (record { s0 = dark; s1 = s1; s2 = s2; s3 = s3 }) ≡ zero_f
  pub circular_degree : (s1 s2 s3 : Float) → degree_of_circular_polarization (record { s0 = dark; s1 = s1; s2 = s2; s3 = s3 }) ≡ zero_f
  -- " mgf2 " is MgF2 550; "CUSTOM" is IdealAr; "none" is none
  pub mgf2 : from_format_name (32 ∷ 109 ∷ 103 ∷ 102 ∷ 50 ∷ 32 ∷ []) ≡ answer (Some mgf2_default)
  pub custom : from_format_name (67 ∷ 85 ∷ 83 ∷ 84 ∷ 79 ∷ 77 ∷ []) ≡ answer (Some S.IdealAr)
  pub no_name : from_format_name (110 ∷ 111 ∷ 110 ∷ 101 ∷ []) ≡ answer None
