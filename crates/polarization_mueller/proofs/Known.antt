-- Mueller matrices and what they do to a Stokes vector, computed. Assumes nothing.
use mathlib.Core.Path.{refl}
use lib.Ieee.{neg, add, sub, mul, of_bits}
use Rattle.thin_film_complex.specs.Complex as Complex
use Rattle.thin_film_matrix.specs.Matrix.{dot}
use Rattle.polarization_stokes.specs.Jones.{linear_horizontal, linear_vertical, linear_45, circular_right, to_stokes}
use Rattle.polarization_mueller.specs.Jones.{apply}
use Rattle.polarization_mueller.specs.Mueller.{row_times, apply_mueller, response, columns, to_mueller}
use Rattle.polarization_mueller.specs.Known.{KnownMueller}

pub known_mueller : KnownMueller
unfolding to_mueller columns response apply apply_mueller row_times dot linear_horizontal linear_vertical linear_45 circular_right to_stokes Complex.real Complex.add Complex.mul add sub mul neg of_bits
known_mueller = record { matrix = refl; sums_first = refl; rows = refl; onto_zero = refl }
