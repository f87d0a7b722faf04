-- `thin_film_coating::evaluate_layers` meets its contract. Assumes nothing.
use Prim.Native.Nat.{ℕ}
use mathlib.Core.Path.{◌≡◌, ◌∙◌, ap}
use mathlib.Core.Bool.{Bool, false}
use lib.Dec.{leb}
use lib.Ieee.{Float}
use Rattle.refusal.specs.Outcome.{answer, outcome}
use Rattle.thin_film_solver.specs.declared.CoatingResponse.{CoatingResponse}
use Rattle.thin_film_solver.specs.declared.Incidence.{Incidence}
use Rattle.thin_film_solver.specs.Internal.{solved}
use Rattle.thin_film_layers.specs.declared.Prepared.{Prepared}
use Rattle.thin_film_layers.specs.declared.Prepared.TheVariants as P
use Rattle.thin_film_layers.specs.Evaluation.{ordered}
use Rattle.thin_film_layers.specs.Internal.{read_from}
use Rattle.thin_film_layers.proofs.Order.{front, answered, solves}
use Rattle.thin_film_coating.specs.declared.Coating.{Coating}
use Rattle.thin_film_coating.specs.declared.Layers.{Layers}
use Rattle.thin_film_coating.specs.Coating.{listed}
use Rattle.thin_film_coating.specs.Evaluate.{evaluate_coating}
use Rattle.thin_film_coating.specs.Internal.{prepare}
use Rattle.thin_film_coating.proofs.Answers.{prepared}
use Rattle.thin_film_coating.proofs.Places.{as_many, few}
use borrow.Author.Rules.{rules}
use Rattle.thin_film_coating.proofs.evaluate_layers.Goals as goal
use Rattle.std.specs.Prelude.{Result}
use Rattle.refusal.specs.declared.Refusal.{Refusal}

module _ (coating : Coating) (l : Layers) (n_incident n_substrate angle wavelength : Float) (p : Prepared) (p_is : p ≡ prepare coating false l.count n_incident n_substrate angle wavelength) where
  comes_to : read_from p (listed l) ≡ evaluate_coating coating (listed l) n_incident n_substrate angle wavelength
  comes_to =
      prepared n_incident n_substrate angle wavelength false (listed l) l.count (ap (λ (n : ℕ). leb n 64) (as_many l)) coating p p_is
      ∙ ap (λ ls. evaluate_coating coating ls n_incident n_substrate angle wavelength) (front (listed l))

  at_once : (a : Result CoatingResponse Refusal) → p ≡ P.Answered a → outcome a ≡ evaluate_coating coating (listed l) n_incident n_substrate angle wavelength
  at_once a e = answered p a (listed l) e ∙ comes_to

  read : (reversed : Bool) (light : Incidence) (r : CoatingResponse) → p ≡ P.Layers reversed light → r ≡ solved light (ordered reversed (listed l))
      → answer r ≡ evaluate_coating coating (listed l) n_incident n_substrate angle wavelength
  read reversed light r e f = solves p reversed light (listed l) r e f ∙ comes_to

pub solve_places-requires : goal.solve_places-requires
solve_places-requires c = few false _ _ _ _ _ _ _ _ _ c.prepare.ensures c.in-Layers.is

pub returns-in-Answered : goal.returns-in-Answered
returns-in-Answered c = at_once _ _ _ _ _ _ _ c.prepare.ensures _ c.in-Answered.is

pub returns-in-Layers : goal.returns-in-Layers
returns-in-Layers c = read _ _ _ _ _ _ _ c.prepare.ensures _ _ _ c.in-Layers.is c.solve_places.ensures
