-- Bands whose answers are known, computed. Assumes nothing.
use mathlib.Core.Path.{refl}
use lib.Ieee as Ieee
use lib.Ieee.{of_bits}
use Rattle.train_claim.specs.Claim.{course, product, chosen_s, chosen_p, worked_out}
use Rattle.band.specs.Band.{at_line, added_up, whole_sum}
use Rattle.band.specs.Known.{KnownBand}

pub known_band : KnownBand
unfolding course product chosen_s chosen_p worked_out at_line added_up whole_sum Ieee.add Ieee.mul Ieee.div Ieee.round Ieee.of_int Ieee.to_bits of_bits
known_band = record { onto_zero = refl; in_order = refl; paired = refl }
