-- `thin_film_coating::solve_places` meets its contract. Assumes nothing.
use Prim.Native.Nat.{ℕ, ◌<◌}
use native.Mathlib.Omega.{arith}
use mathlib.Core.Path.{sym, ◌∙◌, ap}
use mathlib.Core.Bool.{Bool}
use mathlib.Core.List.{List}
use lib.ListN.{take}
use lib.Seq.{length-take-le, get_or-take}
use Rattle.thin_film_solver.specs.declared.Incidence.{Incidence}
use Rattle.thin_film_solver.specs.declared.ThinFilmLayer.{ThinFilmLayer}
use Rattle.thin_film_solver.specs.Internal.{solved}
use Rattle.thin_film_layers.specs.Evaluation.{ordered}
use Rattle.thin_film_layers.proofs.Order.{within, begun, turn, last}
use Rattle.thin_film_coating.proofs.Places.{first_places}
use Rattle.thin_film_coating.proofs.solve_places.Goals as goal

pub loop-i-init : goal.loop-i-init
loop-i-init c = begun _ _ _ _ c.identity-ms.ensures c.identity-mp.ensures

pub loop-i-preserved : goal.loop-i-preserved
loop-i-preserved c =
    let count : ℕ = c.args.count in
    let reversed : Bool = c.args.reversed in
    let items : List ThinFilmLayer = c.args.items in
    let i : ℕ = c.loop-i.i in
    let j : ℕ = c.nth_index-j.result in
    let test : i < count = c.loop-i-test.true in
    let j_in : j < count = omega (arith, c.nth_index-j.ensures, within reversed count i test) in
    turn _ reversed (take count items) count i j _ _ _ _ _ _ _ (sym (length-take-le count items (omega arith))) test
    c.nth_index-j.ensures (sym (get_or-take count items j _ j_in)) c.terms_of-terms.ensures c.step_s-next_s.ensures c.step_p-next_p.ensures c.loop-i.invariant

pub returns : goal.returns
returns c =
    let count : ℕ = c.args.count in
    let reversed : Bool = c.args.reversed in
    let light : Incidence = c.args.light in
    let items : List ThinFilmLayer = c.args.items in
    c.finish.ensures
    ∙ last light reversed (take count items) _ _ c.loop-i.i (omega (arith, length-take-le count items (omega arith))) c.loop-i.invariant
    ∙ ap (λ (ls : List ThinFilmLayer). solved light (ordered reversed ls)) (sym (first_places (record { items = items; count = count }) (omega arith)))
