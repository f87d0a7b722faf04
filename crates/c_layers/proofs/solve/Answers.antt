-- `c_layers::solve` meets its contract. Assumes nothing.
use mathlib.Core.Path.{sym, ap, ◌∙◌}
use mathlib.Core.List.{List}
use Prim.Native.Nat.{ℕ}
use lib.Dec.{eqb}
use Rattle.thin_film_solver.specs.declared.ThinFilmLayer.{ThinFilmLayer}
use Rattle.thin_film_solver.specs.Internal.{solved}
use Rattle.thin_film_layers.specs.Evaluation.{ordered}
use Rattle.thin_film.proofs.Own.{beside, own}
use borrow.Author.Tests.{eq-eqb, ne_eqb}
use Rattle.c_layers.proofs.solve.Goals as goal

pub returns-then-own_count-eq0 : goal.returns-then-own_count-eq0
returns-then-own_count-eq0 c =
    let a = c.args in
    c.solve_list.ensures ∙ ap (λ (l : List ThinFilmLayer). solved a.light (ordered a.reversed l)) (sym (beside a.coating _ (ap (λ (n : ℕ). eqb n 0) (sym c.own_count.ensures) ∙ eq-eqb _ 0 c.if-own_count-eq0.true)))

pub returns-else-own_count-eq0 : goal.returns-else-own_count-eq0
returns-else-own_count-eq0 c =
    let a = c.args in
    c.solve_own.ensures ∙ ap (λ (l : List ThinFilmLayer). solved a.light (ordered a.reversed l)) (sym (own a.coating _ (ap (λ (n : ℕ). eqb n 0) (sym c.own_count.ensures) ∙ ne_eqb _ 0 c.if-own_count-eq0.false)))
