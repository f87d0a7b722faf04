-- 02 slip 2, 'What stays in the glass': each coating response gains two numbers, and its old fields are the Rust's. Definitions only;
-- proofs/InTheGlass.antt has the proof.
use Rattle.std.specs.Prelude.{◌≡◌, Float}
use Rattle.std.specs.Float.{nan, binary64}
use Rattle.std.specs.Float.Ieee.{of_bits}
use Rattle.ieee.specs.Operators.{◌⊖◌}
use Rattle.ieee.specs.Functions.{zero_f, one, minus_one, clamp}
use Rattle.thin_film_complex.specs.declared.Complex.{Complex}
use Rattle.thin_film_solver.specs.declared.CoatingResponse.{CoatingResponse}

-- the Rust's `CoatingResponse`
pub record RustResponse : Type 0 where
  pub rs : Complex
  pub rp : Complex
  pub ts : Complex
  pub tp : Complex
  pub reflectance_s : Float
  pub reflectance_p : Float
  pub transmittance_s : Float
  pub transmittance_p : Float
  pub phase_rs_rad : Float
  pub phase_rp_rad : Float

-- (1 - R) - T, clamped to 0..1; a NaN stays NaN
unfoldable pub absorptance : Float → Float → Float
absorptance reflectance transmittance = clamp ((one ⊖ reflectance) ⊖ transmittance) zero_f one

-- each coating response gains two numbers, for s and for p
unfoldable pub with_absorptance : RustResponse → CoatingResponse
with_absorptance r = record {
  rs = r.rs;
  rp = r.rp;
  ts = r.ts;
  tp = r.tp;
  reflectance_s = r.reflectance_s;
  reflectance_p = r.reflectance_p;
  transmittance_s = r.transmittance_s;
  transmittance_p = r.transmittance_p;
  phase_rs_rad = r.phase_rs_rad;
  phase_rp_rad = r.phase_rp_rad;
  absorptance_s = absorptance r.reflectance_s r.transmittance_s;
  absorptance_p = absorptance r.reflectance_p r.transmittance_p;
}

-- the old fields
abbrev pub rust_fields : CoatingResponse → RustResponse
rust_fields r = record {
  rs = r.rs;
  rp = r.rp;
  ts = r.ts;
  tp = r.tp;
  reflectance_s = r.reflectance_s;
  reflectance_p = r.reflectance_p;
  transmittance_s = r.transmittance_s;
  transmittance_p = r.transmittance_p;
  phase_rs_rad = r.phase_rs_rad;
  phase_rp_rad = r.phase_rp_rad;
}

-- 0.3 and 0.6: 1 - (0.3 + 0.6) and (1 - 0.6) - 0.3 have other last bits
abbrev pub three_tenths : Float
three_tenths = of_bits binary64 0x3FD3_3333_3333_3333

abbrev pub six_tenths : Float
six_tenths = of_bits binary64 0x3FE3_3333_3333_3333

pub record AbsorptanceClaim : Type 0 where
  -- no old field moves
  pub kept : (r : RustResponse) → rust_fields (with_absorptance r) ≡ r
  -- s is of R_s and T_s, p of R_p and T_p
  pub of_s : (r : RustResponse) → (with_absorptance r).absorptance_s ≡ absorptance r.reflectance_s r.transmittance_s
  pub of_p : (r : RustResponse) → (with_absorptance r).absorptance_p ≡ absorptance r.reflectance_p r.transmittance_p
  -- 1 - R first
  pub in_order : absorptance three_tenths six_tenths ≡ of_bits binary64 0x3FB9_9999_9999_9998
  -- clamped to 0..1
  pub from_zero : absorptance one one ≡ zero_f
  pub to_one : absorptance minus_one zero_f ≡ one
  -- a NaN stays NaN, whatever stands beside it
  pub nan_reflectance : (t : Float) → absorptance nan t ≡ nan
  pub nan_transmittance : (r : Float) → absorptance r nan ≡ nan
