-- What stands where there is no response. Assumes nothing.
use mathlib.Core.Path.{refl}
use lib.Ieee.{of_bits}
use Rattle.thin_film_solver.specs.Known.{KnownNoResponse}

pub known_no_response : KnownNoResponse
unfolding of_bits
known_no_response = record { naughts = refl }
