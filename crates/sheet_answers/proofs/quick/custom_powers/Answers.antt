-- `sheet_answers::quick::custom_powers` meets its contract. Assumes nothing.
use mathlib.Core.Path.{◌≡◌, sym, ap, ◌∙◌}
use mathlib.Core.Bool.{Bool, true}
use mathlib.Core.List.{List}
use Prim.Native.Nat.{ℕ, ◌≤◌}
use lib.Dec.{leb}
use lib.ListN.{length}
use lib.Ieee.{Float, lt}
use borrow.Author.Tests.{le-leb}
use Rattle.refusal.specs.Outcome.{answer, map}
use Rattle.thin_film_solver.specs.declared.ThinFilmLayer.{ThinFilmLayer}
use Rattle.thin_film_solver.specs.declared.Incidence.{Incidence}
use Rattle.thin_film_solver.specs.Internal.{incidence, solved}
use Rattle.thin_film_valid.specs.Valid.{valid}
use Rattle.thin_film_layers.specs.declared.Prepared.TheVariants as P
use Rattle.thin_film_layers.specs.Evaluation.{ordered}
use Rattle.thin_film_layers.specs.Internal.{read_from}
use Rattle.thin_film_coating.specs.declared.Coating.TheVariants.{Multilayer}
use Rattle.thin_film_coating.specs.Evaluate.{evaluate_coating}
use Rattle.thin_film_coating.specs.Internal.{start, prepare}
use Rattle.thin_film_coating.proofs.Answers.{prepared}
use Rattle.thin_film.specs.declared.SurfaceCoating.TheVariants.{Custom}
use Rattle.thin_film.specs.Coating.{layers_of}
use Rattle.thin_film.specs.Evaluate.{rust_evaluate_surface, evaluate_surface}
use Rattle.surface.specs.declared.Powers.{Powers}
use Rattle.surface.specs.Answers.{coated_powers}
use Rattle.sheet_answers.proofs.After.{many}
use Rattle.sheet_answers.proofs.quick.custom_powers.Goals as goal

module _ (ni ns a w : Float) (layers : List ThinFilmLayer) (n : ℕ) (l : length layers ≡ n) (few : n ≤ 64) (t : Bool) (t_is : t ≡ valid ni ns a w) (passes : t ≡ true) where
  ready : P.Layers (lt ns ni) (incidence ni ns a w) ≡ prepare Multilayer (lt ns ni) n ni ns a w
  unfolding prepare start
  ready = rw (sym t_is ∙ passes, le-leb n 64 few)

  evaluates : answer (solved (incidence ni ns a w) (ordered (lt ns ni) layers)) ≡ evaluate_surface (Custom Multilayer) layers ni ns a w
  unfolding read_from evaluate_coating layers_of rust_evaluate_surface evaluate_surface
  evaluates = prepared ni ns a w (lt ns ni) layers n (ap (λ (m : ℕ). leb m 64) l) Multilayer _ ready

  known : (light : Incidence) → light ≡ incidence ni ns a w → (r : Powers) → r ≡ coated_powers (solved light (ordered (lt ns ni) layers)) → answer r ≡ map coated_powers (evaluate_surface (Custom Multilayer) layers ni ns a w)
  known light e r f = ap answer (f ∙ ap (λ (z : Incidence). coated_powers (solved z (ordered (lt ns ni) layers))) e) ∙ ap (map coated_powers) evaluates

pub returns-then-valid : goal.returns-then-valid
returns-then-valid c = λ e. known _ _ _ _ _ _ (many _ _ _ _) c.if-n-le64.true _ c.valid.ensures c.if-valid.true _ (c.light_with-light.ensures e) _ c.layers_powers.ensures

pub returns : goal.returns
returns c = λ e. c.coated_powers.ensures
