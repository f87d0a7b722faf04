-- The answers that show where the laws end, by computation. Assumes nothing.
use mathlib.Core.Path.{refl}
use lib.Ieee as Ieee
use lib.Ieee.{of_bits}
use Rattle.thin_film_complex.specs.Complex as C
use Rattle.thin_film_matrix.specs.Matrix.{dot}
use Rattle.polarization_mueller.specs.Jones.{identity, diattenuator, mul}
use Rattle.polarization_order.specs.Sharp.{Sharp}

pub sharp : Sharp
unfolding identity diattenuator mul dot C.real C.add C.mul Ieee.add Ieee.sub Ieee.mul Ieee.neg of_bits
sharp = record {
  minus_zero = refl;
  plus_zero = refl;
  sign_lost = refl;
  overflows = refl;
  x_last = refl;
  x_first = refl;
  identity_infinite = refl;
  infinite_first = refl;
  infinite_last = refl;
}
