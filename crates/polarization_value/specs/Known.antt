-- What is equal in value and what is not, computed.
use Rattle.std.specs.Prelude.{◌≡◌, true, false}
use Rattle.std.specs.Float.{nan, inf}
use Rattle.std.specs.Float.Ieee.{neg}
use Rattle.ieee.specs.Functions.{zero_f, one, two}
use Rattle.polarization_value.specs.Value.{same}

pub record KnownValues : Type 0 where
  pub zeros : same zero_f (neg zero_f) ≡ true
  pub nans : same nan nan ≡ true
  pub itself : same one one ≡ true
  pub another : same one two ≡ false
  pub opposite : same one (neg one) ≡ false
  pub infinities : same (inf false) (inf true) ≡ false
  pub nan_first : same nan one ≡ false
  pub nan_second : same one nan ≡ false
  pub nan_and_infinity : same nan (inf false) ≡ false
