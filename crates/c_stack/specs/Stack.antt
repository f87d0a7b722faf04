-- What dihkelu_stack writes: the layers of a stack by their numbers. Definitions only; proofs/Flat.antt has the proof of the claim.
use Rattle.std.specs.Prelude.{◌≡◌, List, [], ◌∷◌, Float}
use Rattle.thin_film_solver.specs.declared.ThinFilmLayer.{ThinFilmLayer}
use Rattle.c_layers.specs.Evaluate.{layers}
use Rattle.c_call.specs.Call.{Reply, counted}

-- n, k, thickness of each layer, one after the other
unfoldable pub flat : List ThinFilmLayer → List Float
flat [] = []
flat (layer ∷ rest) = layer.n ∷ layer.k ∷ layer.thickness_nm ∷ flat rest

-- dihkelu_stack: 3 numbers for each layer
abbrev pub stacked : List ThinFilmLayer → Reply
stacked stack = counted (flat stack)

-- what is written is read back by dihkelu_evaluate as the same layers
abbrev pub ReadBack : Type 0
ReadBack = (stack : List ThinFilmLayer) → layers (flat stack) ≡ stack
