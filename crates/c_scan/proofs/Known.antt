-- The number of each argument, computed. Assumes nothing.
use mathlib.Core.Path.{refl}
use lib.Ieee.{lt, le, of_bits}
use Rattle.ieee.specs.Functions.{finite_positive}
use Rattle.c_scan.specs.Argument.{invalid_argument}
use Rattle.c_scan.specs.Known.{KnownArguments}

pub known_arguments : KnownArguments
unfolding invalid_argument finite_positive lt le of_bits
known_arguments = record { none = refl; incident = refl; substrate = refl; angle = refl; wavelength = refl; first = refl }
