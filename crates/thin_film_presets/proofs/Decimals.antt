-- The indices are the doubles nearest to their decimals, computed by the checker. Assumes nothing.
use mathlib.Core.Path.{refl}
use lib.Ieee.{of_bits, round}
use Rattle.thin_film_presets.specs.Layers.{Decimals}

pub decimals : Decimals
unfolding of_bits round
decimals = record { sio2 = refl; tio2 = refl }
