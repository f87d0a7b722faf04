-- Internal: an evaluation while its layers are read. A reader need not believe it: what is exported names `outcome` and `evaluate`.
use Rattle.std.specs.Prelude.{ℕ, ◌-◌, Bool, false, cond, List, Float, Ok, Err, Result}
use Rattle.ieee.specs.Functions.{zero_f}
use Rattle.refusal.specs.Outcome.{Outcome, answer, outcome}
use Rattle.thin_film_matrix.specs.Matrix.{Matrix}
use Rattle.thin_film_solver.specs.declared.CoatingResponse.{CoatingResponse}
use Rattle.thin_film_solver.specs.declared.Incidence.{Incidence}
use Rattle.thin_film_solver.specs.declared.ThinFilmLayer.{ThinFilmLayer}
use Rattle.thin_film_solver.specs.Solve.{no_response}
use Rattle.thin_film_solver.specs.Internal.{incidence, finish, solved}
use Rattle.thin_film_layers.specs.declared.Prepared.{Prepared}
use Rattle.thin_film_layers.specs.declared.Prepared.TheVariants as P
use Rattle.thin_film_layers.specs.Evaluation.{ordered}
use Rattle.refusal.specs.declared.Refusal.{Refusal}

-- the index of the i-th layer that is read, of n
abbrev pub nth_index : Bool → ℕ → ℕ → ℕ
nth_index reversed n i = cond reversed (n - 1 - i) i

-- what comes of an evaluation and the layers beside its coating
unfoldable pub read_from : Prepared → List ThinFilmLayer → Outcome CoatingResponse
read_from (P.Answered a) layers = outcome a
read_from (P.Layers reversed light) layers = answer (solved light (ordered reversed layers))

-- ---- the loop over the caller's list
-- how many of n layers are read: all or none
abbrev pub read_count : Prepared → ℕ → ℕ
read_count (P.Answered a) n = 0
read_count (P.Layers reversed light) n = n

abbrev pub reversed_in : Prepared → Bool
reversed_in (P.Answered a) = false
reversed_in (P.Layers reversed light) = reversed

-- where no layer is read, there is no light
abbrev pub light_in : Prepared → Incidence
light_in (P.Answered a) =
    record { n_incident = zero_f; n_substrate = zero_f; cos_theta0 = zero_f; snell = zero_f; wavelength_nm = zero_f }
light_in (P.Layers reversed light) = light

-- the answer, once the layers are read
abbrev pub concluded : Prepared → Matrix → Matrix → Result CoatingResponse Refusal
concluded (P.Answered a) ms mp = a
concluded (P.Layers reversed light) ms mp = Ok (finish light ms mp)

-- every layer, in the order of the list
abbrev pub all_layers : Float → Float → Float → Float → Prepared
all_layers n_incident n_substrate angle wavelength = P.Layers false (incidence n_incident n_substrate angle wavelength)

abbrev pub response : Result CoatingResponse Refusal → CoatingResponse
response (Ok r) = r
response (Err r) = no_response
