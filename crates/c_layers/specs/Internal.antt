-- Internal: layers of a flat list, and how a user's coating is refused. A reader need not believe it: what is exported names `evaluate` and `refusal_of`.
use Rattle.std.specs.Prelude.{ℕ, ◌+◌, cond, List, leb, get_or, Float}
use Rattle.refusal.specs.Outcome.{Outcome, answer, too_many_layers}
use Rattle.thin_film_solver.specs.declared.ThinFilmLayer.{ThinFilmLayer}
use Rattle.thin_film_layers.specs.Evaluation.{no_layer}
use Rattle.thin_film_coating.specs.declared.Coating.{Coating}
use Rattle.thin_film_coating.specs.declared.Coating.TheVariants as C
use Rattle.c_layers.specs.Evaluate.{layers}

-- the j-th layer after so many others
abbrev pub layer_on : List Float → ℕ → ℕ → ThinFilmLayer
layer_on flat after j = get_or (layers flat) (after + j) no_layer

-- there are count layers
abbrev pub checked_custom : Coating → ℕ → Outcome (Unit {0})
checked_custom C.IdealAr count = answer tt
checked_custom C.IdealMirror count = answer tt
checked_custom C.IdealBeamsplitter count = answer tt
checked_custom C.Multilayer count = cond (leb count 64) (answer tt) too_many_layers
