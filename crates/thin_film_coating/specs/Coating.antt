-- `Coating` of thin_film.rs with its layers by value. Definitions only.
use Rattle.std.specs.Prelude.{◌≡◌, ℕ, ◌-◌, ◌<◌, cond, List, [], ◌∷◌, ◌++◌, leb, length, take, replicate, Float}
use Rattle.std.specs.Float.{binary64}
use Rattle.ieee.specs.Operators.{◌⊗◌}
use Rattle.math_root.specs.Root.{square_root}
use Rattle.refusal.specs.Outcome.{Outcome, answer, refusal, too_many_layers}
use Rattle.thin_film_solver.specs.declared.ThinFilmLayer.{ThinFilmLayer}
use Rattle.thin_film_solver.specs.Solve.{dielectric}
use Rattle.thin_film_layers.specs.Evaluation.{no_layer}
use Rattle.thin_film_presets.specs.Layers.{quarter_wave, bragg_layers}
use Rattle.thin_film_coating.specs.declared.Coating.{Coating}
use Rattle.thin_film_coating.specs.declared.Coating.TheVariants as C
use Rattle.thin_film_coating.specs.declared.Layers.{Layers}
use Rattle.thin_film_coating.specs.declared.Built.{Built}

-- quarter_wave_ar: n_opt = (n_ambient * n_substrate).sqrt()
unfoldable pub quarter_wave_layers : Float → Float → Float → List ThinFilmLayer
quarter_wave_layers n-ambient n_substrate design =
    let n-opt = square_root binary64 (n-ambient ⊗ n_substrate) in
    dielectric n-opt (quarter_wave design n-opt) ∷ []

-- the layers that are held; one past the last place is none
unfoldable pub listed : Layers → List ThinFilmLayer
listed l = take l.count (l.items ++ replicate (l.count - length l.items) no_layer)

-- the layers in the first of 64 places
abbrev pub layers_in : List ThinFilmLayer → Layers
layers_in layers = record { items = layers ++ replicate (64 - length layers) no_layer; count = length layers }

-- a coating and its layers
abbrev pub built : Coating → List ThinFilmLayer → Built
built coating layers = record { refusal = 0; coating = coating; layers = layers_in layers }

-- 3: more layers than there are places for, which is what stands beside the number
abbrev pub too_many : Built
too_many = record { refusal = 3; coating = C.Multilayer; layers = record { items = replicate 64 no_layer; count = 65 } }

-- document 01's number and values for each case
abbrev pub outcome : Built → Outcome (Coating × List ThinFilmLayer)
outcome b = cond (leb b.refusal 0) (answer (b.coating, listed b.layers)) (refusal b.refusal 0)

-- quarter_wave_ar
abbrev pub quarter_wave_ar : Float → Float → Float → Built
quarter_wave_ar n-ambient n_substrate design = built C.Multilayer (quarter_wave_layers n-ambient n_substrate design)

-- bragg_mirror; 3 over 31 pairs
abbrev pub bragg_mirror : Float → Float → ℕ → Float → Built
bragg_mirror n_high n_low pairs design = cond (leb pairs 31) (built C.Multilayer (bragg_layers n_high n_low pairs design)) too_many

-- what a caller has of what is built, in document 01's words: the coating with its layers, or 3; proofs/Claim.antt has the proof
pub record BuiltClaim : Type 0 where
  pub of_quarter_wave_ar : (n-ambient n_substrate design : Float)
      → outcome (quarter_wave_ar n-ambient n_substrate design) ≡ answer (C.Multilayer, quarter_wave_layers n-ambient n_substrate design)
  pub of_bragg_mirror : (n_high n_low : Float) (pairs : ℕ) (design : Float)
      → outcome (bragg_mirror n_high n_low pairs design)
      ≡ cond (leb pairs 31) (answer (C.Multilayer, bragg_layers n_high n_low pairs design)) too_many_layers
  -- what stands beside a refusal is more than 64 layers
  pub of_refused : (64 < length (listed too_many.layers)) × (too_many.coating ≡ C.Multilayer)
