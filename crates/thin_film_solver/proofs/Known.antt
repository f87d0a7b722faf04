-- Known answers of document 01, computed by the checker. Assumes nothing.
use mathlib.Core.Path.{◌≡◌, refl}
use mathlib.Core.List.{[]}
use lib.Ieee as Ieee
use lib.Ieee.{Float, binary64, of_bits}
use Rattle.ieee.specs.Functions.{zero_f, one, half, abs, max, clamp, three}
use Rattle.math_root.specs.Root.{square_root}
use Rattle.math_trig.specs.Angles.{pi}
use Rattle.whole_nearest.specs.Nearest.{nearest_whole}
use Rattle.math_trig.specs.Trig.{wrap, less_turns, reduce, first_line, fold, second_fold, series, sin_at, sin, cos_at, cos_of, cos}
use Rattle.math_atan.specs.Atan.{with_sign, atan2}
use Rattle.thin_film_complex.specs.Complex.{real, scale, norm_sq, arg, add, sub, mul, quotient, div}
use Rattle.thin_film_solver.specs.declared.CoatingResponse.{CoatingResponse}
use Rattle.thin_film_solver.specs.Solve.{eta0_s, eta0_p, cos_theta_sub, eta_sub_s, eta_sub_p, product_s, product_p, b_of, c_of, reflection, transmission, reflectance, transmittance, solve, rust_respond, rust_evaluate, evaluate}
use Rattle.thin_film_solver.specs.Absorptance.{absorptance, with_absorptance}

-- rs = rp = -0.5, ts = tp = 0.5, R = 0.25, T = 0.75, phases π, and nothing stays in the glass
abbrev pub bare : CoatingResponse
bare = record {
  rs = real (of_bits binary64 0xBFE0_0000_0000_0000);
  rp = real (of_bits binary64 0xBFE0_0000_0000_0000);
  ts = real half;
  tp = real half;
  reflectance_s = of_bits binary64 0x3FD0_0000_0000_0000;
  reflectance_p = of_bits binary64 0x3FD0_0000_0000_0000;
  transmittance_s = of_bits binary64 0x3FE8_0000_0000_0000;
  transmittance_p = of_bits binary64 0x3FE8_0000_0000_0000;
  phase_rs_rad = pi;
  phase_rp_rad = pi;
  absorptance_s = zero_f;
  absorptance_p = zero_f;
}

-- no layers, 1 to 3, angle 0, at any wavelength
pub no_layers : (wavelength : Float) → evaluate one three zero_f wavelength [] ≡ bare
unfolding eta0_s eta0_p cos_theta_sub eta_sub_s eta_sub_p product_s product_p b_of c_of reflection transmission reflectance transmittance solve rust_respond rust_evaluate evaluate absorptance with_absorptance real scale norm_sq arg add sub mul quotient div abs max clamp square_root nearest_whole wrap less_turns reduce first_line fold second_fold series sin_at sin cos_at cos_of cos with_sign atan2 Ieee.rem Ieee.lt Ieee.le Ieee.eq Ieee.add Ieee.sub Ieee.mul Ieee.div Ieee.neg Ieee.of_int Ieee.is_nan of_bits
no_layers wavelength = refl
