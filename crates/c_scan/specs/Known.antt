-- dihkelu_invalid_argument: the number of each argument. Types only; `proofs/Known.antt` computes them.
use Rattle.std.specs.Prelude.{◌≡◌, Float}
use Rattle.std.specs.Float.{nan, binary64}
use Rattle.std.specs.Float.Ieee.{of_bits}
use Rattle.ieee.specs.Functions.{zero_f, one}
use Rattle.c_scan.specs.Argument.{invalid_argument}

-- -1
abbrev pub minus_one : Float
minus_one = of_bits binary64 0xBFF0_0000_0000_0000

pub record KnownArguments : Type 0 where
  -- an angle below zero is none that fails
  pub none : invalid_argument one one minus_one one ≡ 0
  -- each alone: n_incident, n_substrate, the angle, the wavelength
  pub incident : invalid_argument minus_one one one one ≡ 1
  pub substrate : invalid_argument one zero_f one one ≡ 2
  pub angle : invalid_argument one one nan one ≡ 3
  pub wavelength : invalid_argument one one one zero_f ≡ 4
  -- the first of several
  pub first : invalid_argument one nan nan nan ≡ 2
