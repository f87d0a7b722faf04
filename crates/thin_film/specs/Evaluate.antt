-- `SurfaceCoating::evaluate` of thin_film.rs, and with 02 slip 2's two numbers; and that it refuses as `Coating::evaluate` does.
-- Definitions only.
use Rattle.std.specs.Prelude.{◌≡◌, List, Float}
use Rattle.std.specs.Float.Ieee.{lt}
use Rattle.refusal.specs.Outcome.{Outcome, map}
use Rattle.thin_film_solver.specs.declared.ThinFilmLayer.{ThinFilmLayer}
use Rattle.thin_film_solver.specs.declared.CoatingResponse.{CoatingResponse}
use Rattle.thin_film_solver.specs.Absorptance.{RustResponse, with_absorptance}
use Rattle.thin_film_layers.specs.Evaluation.{ordered}
use Rattle.thin_film_coating.specs.Evaluate.{rust_evaluate_coating, evaluate_coating}
use Rattle.thin_film.specs.declared.SurfaceCoating.{SurfaceCoating}
use Rattle.thin_film.specs.Coating.{coating_of, layers_of}

-- SurfaceCoating::evaluate: to_coating, then the layers reversed only where n_incident > n_substrate, then Coating::evaluate
unfoldable pub rust_evaluate_surface : SurfaceCoating → List ThinFilmLayer → Float → Float → Float → Float → Outcome RustResponse
rust_evaluate_surface surface custom n_incident n_substrate angle wavelength =
    let reversed = lt n_substrate n_incident in
    rust_evaluate_coating (coating_of surface) (ordered reversed (layers_of surface custom)) n_incident n_substrate angle wavelength

-- with the two numbers
unfoldable pub evaluate_surface : SurfaceCoating → List ThinFilmLayer → Float → Float → Float → Float → Outcome CoatingResponse
evaluate_surface surface custom n_incident n_substrate angle wavelength =
    map with_absorptance (rust_evaluate_surface surface custom n_incident n_substrate angle wavelength)

-- 01 section 4: both refuse alike, with the same number and place and for the same arguments; proofs/Alike.antt has the proof
abbrev pub refusal_of : Outcome CoatingResponse → Outcome (Unit {0})
refusal_of o = map (λ r. tt) o

abbrev pub RefuseAlike : Type 0
RefuseAlike =
    (surface : SurfaceCoating) (custom : List ThinFilmLayer) (n_incident n_substrate angle wavelength : Float)
    → refusal_of (evaluate_surface surface custom n_incident n_substrate angle wavelength)
    ≡ refusal_of (evaluate_coating (coating_of surface) (layers_of surface custom) n_incident n_substrate angle wavelength)
