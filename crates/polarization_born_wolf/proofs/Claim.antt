-- What is claimed of the conversion holds. Assumes nothing.
use mathlib.Core.Path.{◌≡◌, refl}
use lib.Ieee as Ieee
use lib.Ieee.{binary64, of_bits}
use Rattle.thin_film_complex.specs.Complex.{real, add, mul}
use Rattle.thin_film_matrix.specs.Matrix.{dot}
use Rattle.polarization_stokes.specs.Jones.{linear_horizontal, linear_vertical, linear_45, circular_right, to_stokes}
use Rattle.polarization_mueller.specs.Jones as J
use Rattle.polarization_mueller.specs.Mueller as M
use Rattle.polarization_born_wolf.specs.Conversion.{transformed, from_six, to_mueller_born_wolf}
use Rattle.polarization_born_wolf.specs.Claim.{BornWolfClaim}
use Rattle.polarization_born_wolf.proofs.Exact.{transforms, exactly}
use Rattle.polarization_born_wolf.proofs.Columns.{columns}

empty_space : to_mueller_born_wolf J.identity ≡ M.identity
unfolding to_mueller_born_wolf from_six transformed M.identity J.identity J.apply to_stokes dot real add mul Ieee.add Ieee.sub Ieee.mul Ieee.neg of_bits
empty_space = refl

turned : M.entry (M.to_mueller J.identity) 15 ≡ of_bits binary64 0xBFF0_0000_0000_0001
unfolding M.to_mueller M.columns M.response J.identity J.apply linear_horizontal linear_vertical linear_45 circular_right to_stokes dot real add mul Ieee.add Ieee.sub Ieee.mul Ieee.neg of_bits
turned = refl

pub born_wolf_claim : BornWolfClaim
born_wolf_claim = record {
  transforms = λ j v p q r s x y m b. transforms j p q r s m v x y b;
  exactly = λ j v p q r s x y m b. exactly j p q r s m v x y b;
  empty_space = empty_space;
  turned = turned;
  columns = columns;
}
