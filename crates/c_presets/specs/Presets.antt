-- What dihkelu_bragg_mirror answers. Definitions only.
use Rattle.std.specs.Prelude.{ℕ, cond, List, leb, Float}
use Rattle.refusal.specs.Outcome.{Outcome, answer, too_many_layers}
use Rattle.thin_film_solver.specs.declared.ThinFilmLayer.{ThinFilmLayer}
use Rattle.thin_film_presets.specs.Layers.{bragg_layers}

-- bragg_mirror's layers; 3 over 31 pairs
abbrev pub mirror : Float → Float → ℕ → Float → Outcome (List ThinFilmLayer)
mirror n_high n_low pairs design = cond (leb pairs 31) (answer (bragg_layers n_high n_low pairs design)) too_many_layers
