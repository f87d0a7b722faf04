-- Internal: `Coating::evaluate` up to the layers. A reader need not believe it: proofs/Answers.antt ties it to `evaluate_coating`.
use Rattle.std.specs.Prelude.{ℕ, Bool, cond, leb, Float, Ok, Err}
use Rattle.refusal.specs.declared.Refusal.{Refusal}
use Rattle.refusal.specs.declared.Refusal.TheVariants as R
use Rattle.thin_film_solver.specs.declared.Incidence.{Incidence}
use Rattle.thin_film_solver.specs.Internal.{incidence}
use Rattle.thin_film_valid.specs.Valid.{valid}
use Rattle.thin_film_valid.specs.Ideal.{ideal_ar, ideal_mirror, ideal_beamsplitter}
use Rattle.thin_film_layers.specs.declared.Prepared.{Prepared}
use Rattle.thin_film_layers.specs.declared.Prepared.TheVariants as P
use Rattle.thin_film_coating.specs.declared.Coating.{Coating}
use Rattle.thin_film_coating.specs.declared.Coating.TheVariants as C

abbrev pub refused : Refusal → Prepared
refused r = P.Answered (Err r)

-- there are count layers
unfoldable pub start : Coating → Bool → ℕ → Incidence → Prepared
start C.IdealAr reversed count light = P.Answered (Ok ideal_ar)
start C.IdealMirror reversed count light = P.Answered (Ok ideal_mirror)
start C.IdealBeamsplitter reversed count light = P.Answered (Ok ideal_beamsplitter)
start C.Multilayer reversed count light = cond (leb count 64) (P.Layers reversed light) (refused R.TooManyLayers)

unfoldable pub prepare : Coating → Bool → ℕ → Float → Float → Float → Float → Prepared
prepare coating reversed count n_incident n_substrate angle wavelength =
    let light = incidence n_incident n_substrate angle wavelength in
    cond (valid n_incident n_substrate angle wavelength) (start coating reversed count light) (refused R.InvalidParameter)
