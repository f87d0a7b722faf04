-- What an evaluation gives, and the order in which layers are read. Definitions only.
use Rattle.std.specs.Prelude.{Bool, true, false, List, reverse}
use Rattle.ieee.specs.Functions.{zero_f}
use Rattle.thin_film_solver.specs.declared.CoatingResponse.{CoatingResponse}
use Rattle.thin_film_solver.specs.declared.ThinFilmLayer.{ThinFilmLayer}

-- layers.reverse(), where they are reversed
unfoldable pub ordered : Bool → List ThinFilmLayer → List ThinFilmLayer
ordered false layers = layers
ordered true layers = reverse layers

-- a place that holds no layer
abbrev pub no_layer : ThinFilmLayer
no_layer = record { n = zero_f; k = zero_f; thickness_nm = zero_f }
