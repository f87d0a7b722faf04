-- The layers after the block at a place, as a list: how many there are, and the j-th. Assumes nothing.
use mathlib.Core.Path.{◌≡◌, refl, ap}
use mathlib.Core.List.{List}
use Prim.Native.Nat.{ℕ, zero, suc, ◌<◌}
use native.Mathlib.Nat.{not-suc-le-zero, le_of_suc-le-suc}
use lib.ListN.{length, get_or}
use lib.Ieee.{Float}
use Rattle.thin_film_solver.specs.declared.ThinFilmLayer.{ThinFilmLayer}
use Rattle.sheet.specs.Internal.{next_place, place_on, layer_at, layers_at}
use Rattle.sheet_values.specs.Values.{film, films}

pub many : (w : Float) (src : List ℕ) (at n : ℕ) → length (films w (layers_at src at n)) ≡ n
unfolding films layers_at
many w src at zero = refl
many w src at (suc n) = ap suc (many w src (next_place src at) n)

pub nth : (w : Float) (src : List ℕ) (at n j : ℕ) (d : ThinFilmLayer) → j < n → get_or (films w (layers_at src at n)) j d ≡ film w (layer_at src (place_on src at j))
unfolding films layers_at place_on
nth w src at zero j d h = absurd (not-suc-le-zero h)
nth w src at (suc n) zero d h = refl
nth w src at (suc n) (suc j) d h = nth w src (next_place src at) n j d (le_of_suc-le-suc h)
