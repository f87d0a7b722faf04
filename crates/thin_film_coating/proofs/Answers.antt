-- What a coating's evaluation gives, case by case, and that one that is prepared comes to it. Assumes nothing.
use Prim.Native.Nat.{ℕ, ◌<◌, ◌≤◌}
use mathlib.Core.Path.{◌≡◌, refl, sym, ◌∙◌, ap}
use mathlib.Core.Bool.{Bool, true, false, cond}
use mathlib.Core.List.{List}
use lib.Dec.{leb}
use lib.ListN.{length}
use lib.Ieee.{Float}
use borrow.Author.Tests.{le-leb, lt-leb}
use Rattle.refusal.specs.Outcome.{answer, map, invalid_parameter, too_many_layers}
use Rattle.thin_film_solver.specs.declared.ThinFilmLayer.{ThinFilmLayer}
use Rattle.thin_film_solver.specs.Absorptance.{with_absorptance}
use Rattle.thin_film_solver.specs.Solve as Solve
use Rattle.thin_film_solver.specs.Internal.{incidence}
use Rattle.thin_film_solver.proofs.Steps.{evaluates}
use Rattle.thin_film_valid.specs.Valid.{valid}
use Rattle.thin_film_layers.specs.declared.Prepared.{Prepared}
use Rattle.thin_film_layers.specs.declared.Prepared.TheVariants as P
use Rattle.thin_film_layers.specs.Evaluation.{ordered}
use Rattle.thin_film_layers.specs.Internal.{read_from}
use Rattle.thin_film_layers.proofs.Order.{as_long}
use Rattle.thin_film_coating.specs.declared.Coating.{Coating}
use Rattle.thin_film_coating.specs.declared.Coating.TheVariants as C
use Rattle.thin_film_coating.specs.Evaluate.{rust_respond, rust_evaluate_coating, evaluate_coating}
use Rattle.refusal.specs.declared.Refusal.TheVariants as R
use Rattle.thin_film_coating.specs.Internal.{refused, start, prepare}

module _ (n_incident n_substrate angle wavelength : Float) where
  module _ (layers : List ThinFilmLayer) (coating : Coating) (coating-is : coating ≡ C.Multilayer) (passes : valid n_incident n_substrate angle wavelength ≡ true) where
    pub solved : length layers ≤ 64 → evaluate_coating coating layers n_incident n_substrate angle wavelength ≡ answer (Solve.evaluate n_incident n_substrate angle wavelength layers)
    unfolding rust_respond rust_evaluate_coating evaluate_coating Solve.evaluate
    solved h = simp (passes, coating-is, le-leb _ _ h)

  -- what is prepared for as many layers, or for as few as can be read, comes to the coating's response to them
  module _ (reversed : Bool) (layers : List ThinFilmLayer) (count : ℕ) (alike : leb (length layers) 64 ≡ leb count 64) where
    few : (t : Bool) → read_from (cond t (P.Layers reversed (incidence n_incident n_substrate angle wavelength)) (refused R.TooManyLayers)) layers
        ≡ map with_absorptance (cond t (answer (Solve.rust_evaluate n_incident n_substrate angle wavelength (ordered reversed layers))) too_many_layers)
    unfolding read_from Solve.evaluate
    few true = ap answer (evaluates n_incident n_substrate angle wavelength (ordered reversed layers))
    few false = refl

    started : (coating : Coating) → read_from (start coating reversed count (incidence n_incident n_substrate angle wavelength)) layers ≡ map with_absorptance (rust_respond coating (ordered reversed layers) n_incident n_substrate angle wavelength)
    unfolding start rust_respond read_from
    started C.IdealAr = refl
    started C.IdealMirror = refl
    started C.IdealBeamsplitter = refl
    started C.Multilayer =
        few (leb count 64)
        ∙ ap (λ (t : Bool). map with_absorptance (cond t (answer (Solve.rust_evaluate n_incident n_substrate angle wavelength (ordered reversed layers))) too_many_layers))
        (sym alike ∙ ap (λ (n : ℕ). leb n 64) (sym (as_long reversed layers)))

    module _ (coating : Coating) where
      tested : (t : Bool) → read_from (cond t (start coating reversed count (incidence n_incident n_substrate angle wavelength)) (refused R.InvalidParameter)) layers
          ≡ map with_absorptance (cond t (rust_respond coating (ordered reversed layers) n_incident n_substrate angle wavelength) invalid_parameter)
      unfolding read_from
      tested true = started coating
      tested false = refl

      pub prepared : (p : Prepared) → p ≡ prepare coating reversed count n_incident n_substrate angle wavelength
          → read_from p layers ≡ evaluate_coating coating (ordered reversed layers) n_incident n_substrate angle wavelength
      unfolding prepare rust_evaluate_coating evaluate_coating
      prepared p e = ap (λ (z : Prepared). read_from z layers) e ∙ tested (valid n_incident n_substrate angle wavelength)
