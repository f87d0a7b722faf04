-- Values of blocks and indices of kind 6, computed. Assumes nothing.
use mathlib.Core.Path.{refl}
use lib.Ieee as Ieee
use lib.Ieee.{of_bits}
use Rattle.sheet_values.specs.Values.{cauchy_index}
use Rattle.sheet_values.specs.Known.{KnownBlocks, KnownIndices}

pub known_indices : KnownIndices
unfolding cauchy_index Ieee.add Ieee.mul Ieee.div of_bits
known_indices = record { exact = refl; in_order = refl }

pub known_blocks : KnownBlocks
known_blocks = record { beams = refl; transmitted = refl; reflected = refl; layers = refl; kept = refl; tuned = refl }
