-- `Coating::evaluate` of thin_film.rs, and with 02 slip 2's two numbers. Definitions only.
use Rattle.std.specs.Prelude.{cond, List, leb, length, Float}
use Rattle.refusal.specs.Outcome.{Outcome, answer, map, invalid_parameter, too_many_layers}
use Rattle.thin_film_solver.specs.declared.ThinFilmLayer.{ThinFilmLayer}
use Rattle.thin_film_solver.specs.declared.CoatingResponse.{CoatingResponse}
use Rattle.thin_film_solver.specs.Absorptance.{RustResponse, with_absorptance}
use Rattle.thin_film_solver.specs.Solve.{rust_evaluate}
use Rattle.thin_film_valid.specs.Valid.{valid}
use Rattle.thin_film_valid.specs.Ideal.{rust_ideal_ar, rust_ideal_mirror, rust_ideal_beamsplitter}
use Rattle.thin_film_coating.specs.declared.Coating.{Coating}
use Rattle.thin_film_coating.specs.declared.Coating.TheVariants as C

-- the response of a coating beside its layers; 3 for more than 64 explicit layers, and any other coating ignores the list
unfoldable pub rust_respond : Coating → List ThinFilmLayer → Float → Float → Float → Float → Outcome RustResponse
rust_respond C.IdealAr layers n_incident n_substrate angle wavelength = answer rust_ideal_ar
rust_respond C.IdealMirror layers n_incident n_substrate angle wavelength = answer rust_ideal_mirror
rust_respond C.IdealBeamsplitter layers n_incident n_substrate angle wavelength = answer rust_ideal_beamsplitter
rust_respond C.Multilayer layers n_incident n_substrate angle wavelength =
    cond (leb (length layers) 64) (answer (rust_evaluate n_incident n_substrate angle wavelength layers)) too_many_layers

-- Coating::evaluate; 1 before 3
unfoldable pub rust_evaluate_coating : Coating → List ThinFilmLayer → Float → Float → Float → Float → Outcome RustResponse
rust_evaluate_coating coating layers n_incident n_substrate angle wavelength =
    cond (valid n_incident n_substrate angle wavelength)
    (rust_respond coating layers n_incident n_substrate angle wavelength)
    invalid_parameter

-- with the two numbers
unfoldable pub evaluate_coating : Coating → List ThinFilmLayer → Float → Float → Float → Float → Outcome CoatingResponse
evaluate_coating coating layers n_incident n_substrate angle wavelength =
    map with_absorptance (rust_evaluate_coating coating layers n_incident n_substrate angle wavelength)
