-- evaluate_tmm_multilayer of thin_film.rs, in the Rust's order of operations; what is called `rust-` has the Rust's fields and no more.
-- Definitions only.
use Rattle.std.specs.Prelude.{cond, List, [], ◌∷◌, Float}
use Rattle.std.specs.Float.{binary64}
use Rattle.std.specs.Float.Ieee.{neg, le, of_bits}
use Rattle.ieee.specs.Operators.{◌⊕◌, ◌⊖◌, ◌⊗◌, ◌⊘◌}
use Rattle.ieee.specs.Functions.{zero_f, one, two, half, abs, max, clamp}
use Rattle.math_root.specs.Root.{square_root}
use Rattle.math_trig.specs.Trig.{sin, cos}
use Rattle.thin_film_complex.specs.declared.Complex.{Complex}
use Rattle.thin_film_complex.specs.Complex.{real, zero, scale, norm_sq, arg, ◌⊞◌, ◌⊟◌, ◌⊠◌, ◌⧄◌}
use Rattle.thin_film_solver.specs.declared.ThinFilmLayer.{ThinFilmLayer}
use Rattle.thin_film_solver.specs.declared.CoatingResponse.{CoatingResponse}
use Rattle.thin_film_solver.specs.declared.Polarized.{Polarized}
use Rattle.thin_film_matrix.specs.Matrix.{Matrix, at, mat_mul, identity}
use Rattle.thin_film_solver.specs.Layer.{layer_s, layer_p}
use Rattle.thin_film_solver.specs.Absorptance.{RustResponse, with_absorptance}

-- ---- incident admittance
unfoldable pub eta0_s : Float → Float → Complex
eta0_s n_incident cos-theta0 = real (n_incident ⊗ cos-theta0)

-- 1e-12
abbrev pub least_cos : Float
least_cos = of_bits binary64 0x3D71_9799_812D_EA11

unfoldable pub eta0_p : Float → Float → Complex
eta0_p n_incident cos-theta0 = real (n_incident ⊘ max cos-theta0 least_cos)

-- ---- substrate admittance
-- cos_theta_sub, of sin_theta_sub: beyond 1 in size there is total internal reflection into the substrate
unfoldable pub cos_theta_sub : Float → Complex
cos_theta_sub sin-theta-sub =
    cond (le (abs sin-theta-sub) one)
    (real (square_root binary64 (max (one ⊖ sin-theta-sub ⊗ sin-theta-sub) zero_f)))
    (record { re = zero_f; im = neg (square_root binary64 (sin-theta-sub ⊗ sin-theta-sub ⊖ one)) })

-- Snell: n0 * sin(theta0) = n_sub * sin(theta_sub); `snell` is n_incident * sin_theta0
unfoldable pub eta_sub_s : Float → Float → Complex
eta_sub_s snell n_substrate = real n_substrate ⊠ cos_theta_sub (snell ⊘ n_substrate)

unfoldable pub eta_sub_p : Float → Float → Complex
eta_sub_p snell n_substrate = real n_substrate ⧄ cos_theta_sub (snell ⊘ n_substrate)

-- ---- M = M * M_layer, through the layers
unfoldable pub product_s : Float → Float → Matrix → List ThinFilmLayer → Matrix
product_s snell wavelength ms [] = ms
product_s snell wavelength ms (layer ∷ layers) = product_s snell wavelength (mat_mul ms (layer_s snell wavelength layer)) layers

unfoldable pub product_p : Float → Float → Matrix → List ThinFilmLayer → Matrix
product_p snell wavelength mp [] = mp
product_p snell wavelength mp (layer ∷ layers) = product_p snell wavelength (mat_mul mp (layer_p snell wavelength layer)) layers

-- ---- solve for one polarization: its matrix m, the incident admittance eta0, the substrate's eta
-- [B; C] = M * [1; eta_sub]
unfoldable pub b_of : Matrix → Complex → Complex
b_of m eta = at m 0 0 ⊞ at m 0 1 ⊠ eta

unfoldable pub c_of : Matrix → Complex → Complex
c_of m eta = at m 1 0 ⊞ at m 1 1 ⊠ eta

-- r = (eta0 B - C) / (eta0 B + C)
unfoldable pub reflection : Matrix → Complex → Complex → Complex
reflection m eta0 eta = (eta0 ⊠ b_of m eta ⊟ c_of m eta) ⧄ (eta0 ⊠ b_of m eta ⊞ c_of m eta)

-- t = 2 eta0 / (eta0 B + C)
unfoldable pub transmission : Matrix → Complex → Complex → Complex
transmission m eta0 eta = scale eta0 two ⧄ (eta0 ⊠ b_of m eta ⊞ c_of m eta)

unfoldable pub reflectance : Complex → Float
reflectance r = clamp (norm_sq r) zero_f one

unfoldable pub transmittance : Complex → Complex → Complex → Float
transmittance eta0 eta t = clamp (eta.re ⊘ eta0.re ⊗ norm_sq t) zero_f one

-- the answers for one polarization
unfoldable pub solve : Matrix → Complex → Complex → Polarized
solve m eta0 eta =
    let r = reflection m eta0 eta in
    let t = transmission m eta0 eta in
    record { r = r; t = t; reflectance = reflectance r; transmittance = transmittance eta0 eta t; phase = arg r }

-- the response, of the answers for s and for p
unfoldable pub rust_respond : Polarized → Polarized → RustResponse
rust_respond s p = record {
  rs = s.r;
  rp = p.r;
  ts = s.t;
  tp = p.t;
  reflectance_s = s.reflectance;
  reflectance_p = p.reflectance;
  transmittance_s = s.transmittance;
  transmittance_p = p.transmittance;
  phase_rs_rad = s.phase;
  phase_rp_rad = p.phase;
}

-- with 02 slip 2's two numbers
unfoldable pub respond : Polarized → Polarized → CoatingResponse
respond s p = with_absorptance (rust_respond s p)

-- where there is no response: zero throughout
abbrev pub no_response : CoatingResponse
no_response = record {
  rs = zero;
  rp = zero;
  ts = zero;
  tp = zero;
  reflectance_s = zero_f;
  reflectance_p = zero_f;
  transmittance_s = zero_f;
  transmittance_p = zero_f;
  phase_rs_rad = zero_f;
  phase_rp_rad = zero_f;
  absorptance_s = zero_f;
  absorptance_p = zero_f;
}

-- evaluate_tmm_multilayer: the layers in the order from the incident medium to the substrate
unfoldable pub rust_evaluate : Float → Float → Float → Float → List ThinFilmLayer → RustResponse
rust_evaluate n_incident n_substrate angle wavelength layers =
    let snell = n_incident ⊗ sin angle in
    rust_respond
    (solve (product_s snell wavelength identity layers) (eta0_s n_incident (cos angle)) (eta_sub_s snell n_substrate))
    (solve (product_p snell wavelength identity layers) (eta0_p n_incident (cos angle)) (eta_sub_p snell n_substrate))

-- with 02 slip 2's two numbers
unfoldable pub evaluate : Float → Float → Float → Float → List ThinFilmLayer → CoatingResponse
evaluate n_incident n_substrate angle wavelength layers = with_absorptance (rust_evaluate n_incident n_substrate angle wavelength layers)

-- ---- CoatingResponse
-- (R_s + R_p) * 0.5
unfoldable pub unpolarized_reflectance : CoatingResponse → Float
unpolarized_reflectance r = (r.reflectance_s ⊕ r.reflectance_p) ⊗ half

unfoldable pub unpolarized_transmittance : CoatingResponse → Float
unpolarized_transmittance r = (r.transmittance_s ⊕ r.transmittance_p) ⊗ half

-- ---- ThinFilmLayer
unfoldable pub dielectric : Float → Float → ThinFilmLayer
dielectric n thickness = record { n = n; k = zero_f; thickness_nm = thickness }
