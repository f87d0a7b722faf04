-- What stands where there is no response, by its bits. Types only; `proofs/NoResponse.antt` has it.
use Rattle.std.specs.Prelude.{◌≡◌, Float}
use Rattle.std.specs.Float.{binary64}
use Rattle.std.specs.Float.Ieee.{of_bits}
use Rattle.thin_film_complex.specs.declared.Complex.{Complex}
use Rattle.thin_film_solver.specs.Solve.{no_response}

-- +0
abbrev pub naught : Float
naught = of_bits binary64 0

abbrev pub dark : Complex
dark = record { re = naught; im = naught }

pub record KnownNoResponse : Type 0 where
  -- +0 throughout
  pub naughts : no_response ≡ record {
    rs = dark;
    rp = dark;
    ts = dark;
    tp = dark;
    reflectance_s = naught;
    reflectance_p = naught;
    transmittance_s = naught;
    transmittance_p = naught;
    phase_rs_rad = naught;
    phase_rp_rad = naught;
    absorptance_s = naught;
    absorptance_p = naught;
  }
