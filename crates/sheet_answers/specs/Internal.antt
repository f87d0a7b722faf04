-- Internal: the layers after a block, one by one. A reader need not believe it.
use Rattle.std.specs.Prelude.{ℕ, List, Float}
use Rattle.thin_film_solver.specs.declared.ThinFilmLayer.{ThinFilmLayer}
use Rattle.sheet.specs.Internal.{next_place, place_on, layer_at}
use Rattle.sheet_values.specs.Values.{film}
use Rattle.sheet_answers.specs.declared.quick.Reached.{Reached}

-- the j-th after the block at a place
abbrev pub nth_film : Float → List ℕ → ℕ → ℕ → ThinFilmLayer
nth_film w src at j = film w (layer_at src (place_on src (next_place src at) j))

-- the layer at a place, and the place after it
unfoldable pub reached : Float → List ℕ → ℕ → Reached
reached w src at = record { layer = film w (layer_at src at); next = next_place src at }
