-- The known equalities, by computation. Assumes nothing.
use mathlib.Core.Path.{refl}
use lib.Ieee.{of_bits, neg, eq, is_nan}
use Rattle.polarization_value.specs.Known.{KnownValues}

pub known_values : KnownValues
unfolding of_bits neg eq is_nan
known_values = record {
  zeros = refl;
  nans = refl;
  itself = refl;
  another = refl;
  opposite = refl;
  infinities = refl;
  nan_first = refl;
  nan_second = refl;
  nan_and_infinity = refl;
}
