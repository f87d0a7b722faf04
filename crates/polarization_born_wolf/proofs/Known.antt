-- Matrices that show the signs of zeros and the order of sums, computed. Assumes nothing.
use mathlib.Core.Path.{refl}
use lib.Ieee.{neg, add, sub, mul, of_bits}
use Rattle.thin_film_complex.specs.Complex as Complex
use Rattle.thin_film_matrix.specs.Matrix.{dot}
use Rattle.polarization_stokes.specs.Jones.{to_stokes}
use Rattle.polarization_mueller.specs.Jones.{apply}
use Rattle.polarization_born_wolf.specs.Conversion.{transformed, from_six, to_mueller_born_wolf}
use Rattle.polarization_born_wolf.specs.Known.{KnownBornWolf}

pub known_born_wolf : KnownBornWolf
unfolding to_mueller_born_wolf from_six transformed apply dot to_stokes Complex.add Complex.mul add sub mul neg of_bits
known_born_wolf = record { unnamed_parts = refl; halves_last = refl; quarters_last = refl }
