-- A degree of polarization whose sum gives other bits in any other order, worked out apart. Types only; `proofs/Known.antt` computes it.
use Rattle.std.specs.Prelude.{◌≡◌}
use Rattle.std.specs.Float.{binary64}
use Rattle.std.specs.Float.Ieee.{of_bits}
use Rattle.ieee.specs.Functions.{one}
use Rattle.polarization_stokes.specs.declared.StokesVector.{StokesVector}
use Rattle.polarization_stokes.specs.Stokes.{degree_of_polarization}

-- 1, 0.13, -0.35 and -0.26
abbrev pub faint : StokesVector
faint =
    record {
      s0 = one;
      s1 = of_bits binary64 0x3FC0_A3D7_0A3D_70A4;
      s2 = of_bits binary64 0xBFD6_6666_6666_6666;
      s3 = of_bits binary64 0xBFD0_A3D7_0A3D_70A4;
    }

pub record KnownDegrees : Type 0 where
  -- s1² + s2² first, then s3²: from the other end, or s2² last, the root is an ulp less
  pub in_order : degree_of_polarization faint ≡ of_bits binary64 0x3FDD_1E45_16A0_AD3C
