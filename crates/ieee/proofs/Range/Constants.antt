-- The ranges of the constants that several crates share: each is a point. Assumes nothing.
use lib.Ieee.{of_bits}
use Rattle.ieee.specs.Functions.{zero_f, one, two, half}
use Rattle.ieee.specs.Range.{Mag, In}
use Rattle.ieee.proofs.Range.Laws.{in_lit, in_mag, in_up}

pub zero_in : In 0 0 0 0 zero_f
unfolding of_bits
zero_in = in_lit zero_f tt

pub zero_mag : Mag 0 0 zero_f
zero_mag = in_mag zero_in

-- at the foot of 0 to 1
pub zero_foot : In 0 0 1 0 zero_f
zero_foot = in_up zero_in tt

pub half_in : In 1 1 1 1 half
unfolding of_bits
half_in = in_lit half tt

pub one_in : In 1 0 1 0 one
unfolding of_bits
one_in = in_lit one tt

pub one_mag : Mag 1 0 one
one_mag = in_mag one_in

pub two_in : In 2 0 2 0 two
unfolding of_bits
two_in = in_lit two tt
