-- The starred known answers of 01 that are square roots. Definitions only; proofs/Known.antt computes them.
use Rattle.std.specs.Prelude.{◌≡◌}
use Rattle.std.specs.Float.{binary64}
use Rattle.std.specs.Float.Ieee.{of_bits}
use Rattle.math_root.specs.Root.{sqrt}

pub record SqrtKnown : Type 0 where
  -- sqrt(2^-1074) = 2^-537
  pub smallest : sqrt (of_bits binary64 1) ≡ of_bits binary64 0x1E60_0000_0000_0000
  -- sqrt(-0) = -0
  pub minus_zero : sqrt (of_bits binary64 0x8000_0000_0000_0000) ≡ of_bits binary64 0x8000_0000_0000_0000
