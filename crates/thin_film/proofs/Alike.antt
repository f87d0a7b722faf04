-- `SurfaceCoating::evaluate` and `Coating::evaluate` refuse alike: the order of the layers does not matter for it. Assumes nothing.
use mathlib.Core.Path.{◌≡◌, refl, ap, ◌∙◌}
use mathlib.Core.Bool.{Bool, true, false, cond}
use mathlib.Core.List.{List}
use Prim.Native.Nat.{ℕ}
use lib.Dec.{leb}
use lib.ListN.{length}
use lib.Ieee.{Float, lt}
use Rattle.refusal.specs.Outcome.{Outcome, answer, map, invalid_parameter, too_many_layers}
use Rattle.thin_film_solver.specs.declared.ThinFilmLayer.{ThinFilmLayer}
use Rattle.thin_film_solver.specs.Absorptance.{RustResponse, with_absorptance}
use Rattle.thin_film_solver.specs.Solve as Solve
use Rattle.thin_film_valid.specs.Valid.{valid}
use Rattle.thin_film_layers.specs.Evaluation.{ordered}
use Rattle.thin_film_layers.proofs.Order.{as_long}
use Rattle.thin_film_coating.specs.declared.Coating.{Coating}
use Rattle.thin_film_coating.specs.declared.Coating.TheVariants as C
use Rattle.thin_film_coating.specs.Evaluate.{rust_respond, rust_evaluate_coating, evaluate_coating}
use Rattle.thin_film.specs.Coating.{coating_of, layers_of}
use Rattle.thin_film.specs.Evaluate.{rust_evaluate_surface, evaluate_surface, refusal_of, RefuseAlike}

-- how the Rust's outcome is refused
abbrev refusal_rust : Outcome RustResponse → Outcome (Unit {0})
refusal_rust o = refusal_of (map with_absorptance o)

either : (t : Bool) (x y z : Outcome RustResponse) → refusal_rust x ≡ refusal_rust y → refusal_rust (cond t x z) ≡ refusal_rust (cond t y z)
either true x y z e = e
either false x y z e = refl

module _ (n_incident n_substrate angle wavelength : Float) where
  solve : List ThinFilmLayer → Outcome RustResponse
  solve layers = answer (Solve.rust_evaluate n_incident n_substrate angle wavelength layers)

  responds : (coating : Coating) (xs ys : List ThinFilmLayer) → length xs ≡ length ys
      → refusal_rust (rust_respond coating xs n_incident n_substrate angle wavelength) ≡ refusal_rust (rust_respond coating ys n_incident n_substrate angle wavelength)
  unfolding rust_respond solve
  responds C.IdealAr xs ys e = refl
  responds C.IdealMirror xs ys e = refl
  responds C.IdealBeamsplitter xs ys e = refl
  responds C.Multilayer xs ys e =
      either (leb (length xs) 64) (solve xs) (solve ys) too_many_layers refl ∙ ap (λ (n : ℕ). refusal_rust (cond (leb n 64) (solve ys) too_many_layers)) e

pub refuse_alike : RefuseAlike
unfolding rust_evaluate_surface evaluate_surface rust_evaluate_coating evaluate_coating
refuse_alike surface custom n_incident n_substrate angle wavelength =
    let reversed = lt n_substrate n_incident in
    let layers = layers_of surface custom in
    either (valid n_incident n_substrate angle wavelength) (rust_respond (coating_of surface) (ordered reversed layers) n_incident n_substrate angle wavelength) (rust_respond (coating_of surface) layers n_incident n_substrate angle wavelength) invalid_parameter
    (responds n_incident n_substrate angle wavelength (coating_of surface) (ordered reversed layers) layers (as_long reversed layers))
