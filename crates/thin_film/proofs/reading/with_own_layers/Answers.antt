-- `thin_film::reading::with_own_layers` meets its contract. Assumes nothing.
use mathlib.Core.Path.{◌≡◌, sym, ap, ◌∙◌}
use mathlib.Core.Bool.{Bool, cond}
use mathlib.Core.List.{[]}
use Prim.Native.Nat.{ℕ}
use lib.Dec.{eqb}
use lib.ListN.{length}
use Rattle.thin_film_solver.specs.declared.CoatingResponse.{CoatingResponse}
use Rattle.thin_film_solver.specs.declared.Incidence.{Incidence}
use Rattle.thin_film_solver.specs.Internal.{solved}
use Rattle.thin_film_layers.specs.declared.Prepared.{Prepared}
use Rattle.thin_film_layers.specs.declared.Prepared.TheVariants as P
use Rattle.thin_film_layers.specs.Evaluation.{ordered}
use Rattle.thin_film.specs.declared.SurfaceCoating.{SurfaceCoating}
use Rattle.thin_film.specs.Coating.{layers_of}
use Rattle.thin_film.specs.Internal.{answered_with, answered_own}
use borrow.Author.Rules.{rules}
use borrow.Author.Tests.{eq-eqb, ne_eqb}
use Rattle.thin_film.proofs.reading.with_own_layers.Goals as goal
use Rattle.std.specs.Prelude.{Ok, Result}
use Rattle.refusal.specs.declared.Refusal.{Refusal}

module _ (s : SurfaceCoating) (own : ℕ) (own_is : own ≡ length (layers_of s [])) where
  none : (p : Prepared) → own ≡ 0 → p ≡ answered_own s p
  none p e = ap (λ (b : Bool). cond b p (answered_with s p)) (sym (eq-eqb own 0 e) ∙ ap (λ (n : ℕ). eqb n 0) own_is)

  some : (p r : Prepared) → (own ≡ 0 → ⊥) → r ≡ answered_with s p → r ≡ answered_own s p
  some p r e r_is = r_is ∙ ap (λ (b : Bool). cond b p (answered_with s p)) (sym (ne_eqb own 0 e) ∙ ap (λ (n : ℕ). eqb n 0) own_is)

  known : (p : Prepared) (a : Result CoatingResponse Refusal) → (own ≡ 0 → ⊥) → p ≡ P.Answered a → P.Answered a ≡ answered_own s p
  unfolding answered_with
  known p a e p_is = some p (P.Answered a) e (ap (answered_with s) (sym p_is))

  solves : (p r : Prepared) (reversed : Bool) (light : Incidence) (x : CoatingResponse) → (own ≡ 0 → ⊥) → p ≡ P.Layers reversed light → x ≡ solved light (ordered reversed (layers_of s [])) → r ≡ P.Answered (Ok x)
      → r ≡ answered_own s p
  unfolding answered_with
  solves p r reversed light x e p_is x_is r_is = some p r e (r_is ∙ ap (λ (y : CoatingResponse). P.Answered (Ok y)) x_is ∙ ap (answered_with s) (sym p_is))

pub returns-then-own_count-eq0 : goal.returns-then-own_count-eq0
returns-then-own_count-eq0 c = none _ _ c.own_count.ensures _ c.if-own_count-eq0.true

pub returns-in-Answered : goal.returns-in-Answered
returns-in-Answered c = known _ _ c.own_count.ensures _ _ c.if-own_count-eq0.false c.in-Answered.is

pub returns-in-Layers : goal.returns-in-Layers
returns-in-Layers c =
    solves _ _ c.own_count.ensures _ _ _ _ _ c.if-own_count-eq0.false c.in-Layers.is c.solve_own.ensures c.answered.ensures
