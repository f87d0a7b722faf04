-- The layout of a range. Assumes nothing.
use mathlib.Core.Path.{refl}
use Rattle.c_range.specs.Known.{KnownRange}

pub known_range : KnownRange
known_range = record { low_first = λ low high. refl }
