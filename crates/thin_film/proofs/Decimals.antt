-- The constants are the doubles nearest to their decimals, computed by the checker. Assumes nothing.
use mathlib.Core.Path.{refl}
use lib.Ieee.{of_bits, round}
use Rattle.thin_film.specs.Coating.{Decimals}

pub decimals : Decimals
unfolding of_bits round
decimals = record { design = refl; mgf2 = refl }
