-- The responses of the ideal coatings by their bits. Types only; `proofs/Known.antt` computes them.
use Rattle.std.specs.Prelude.{◌≡◌, ℕ, Float}
use Rattle.std.specs.Float.{binary64}
use Rattle.std.specs.Float.Ieee.{of_bits}
use Rattle.thin_film_complex.specs.declared.Complex.{Complex}
use Rattle.thin_film_valid.specs.Ideal.{ideal_ar, ideal_mirror, ideal_beamsplitter}

abbrev pub bits : ℕ → Float
bits x = of_bits binary64 x

-- with no imaginary part
abbrev pub complex : ℕ → Complex
complex x = record { re = bits x; im = bits 0 }

pub record KnownIdeals : Type 0 where
  -- T = 1, no phase
  pub ar : ideal_ar ≡ record {
    rs = complex 0x0000_0000_0000_0000;
    rp = complex 0x0000_0000_0000_0000;
    ts = complex 0x3FF0_0000_0000_0000;
    tp = complex 0x3FF0_0000_0000_0000;
    reflectance_s = bits 0x0000_0000_0000_0000;
    reflectance_p = bits 0x0000_0000_0000_0000;
    transmittance_s = bits 0x3FF0_0000_0000_0000;
    transmittance_p = bits 0x3FF0_0000_0000_0000;
    phase_rs_rad = bits 0x0000_0000_0000_0000;
    phase_rp_rad = bits 0x0000_0000_0000_0000;
    absorptance_s = bits 0;
    absorptance_p = bits 0;
  }
  -- R = 1: rs is -1, of phase π, and rp is 1, of phase 0
  pub mirror : ideal_mirror ≡ record {
    rs = complex 0xBFF0_0000_0000_0000;
    rp = complex 0x3FF0_0000_0000_0000;
    ts = complex 0x0000_0000_0000_0000;
    tp = complex 0x0000_0000_0000_0000;
    reflectance_s = bits 0x3FF0_0000_0000_0000;
    reflectance_p = bits 0x3FF0_0000_0000_0000;
    transmittance_s = bits 0x0000_0000_0000_0000;
    transmittance_p = bits 0x0000_0000_0000_0000;
    phase_rs_rad = bits 0x4009_21FB_5444_2D18;
    phase_rp_rad = bits 0x0000_0000_0000_0000;
    absorptance_s = bits 0;
    absorptance_p = bits 0;
  }
  -- R = T = 0.5: four amplitudes of the root of a half, no phase
  pub beamsplitter : ideal_beamsplitter ≡ record {
    rs = complex 0x3FE6_A09E_667F_3BCD;
    rp = complex 0x3FE6_A09E_667F_3BCD;
    ts = complex 0x3FE6_A09E_667F_3BCD;
    tp = complex 0x3FE6_A09E_667F_3BCD;
    reflectance_s = bits 0x3FE0_0000_0000_0000;
    reflectance_p = bits 0x3FE0_0000_0000_0000;
    transmittance_s = bits 0x3FE0_0000_0000_0000;
    transmittance_p = bits 0x3FE0_0000_0000_0000;
    phase_rs_rad = bits 0x0000_0000_0000_0000;
    phase_rp_rad = bits 0x0000_0000_0000_0000;
    absorptance_s = bits 0;
    absorptance_p = bits 0;
  }
