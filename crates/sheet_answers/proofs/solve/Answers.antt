-- `sheet_answers::solve` meets its contract. Assumes nothing.
use mathlib.Core.Path.{◌≡◌, sym, ◌∙◌}
use mathlib.Core.List.{List}
use Prim.Native.Nat.{ℕ}
use native.Mathlib.Omega.{arith}
use lib.ListN.{length}
use lib.Ieee.{Float}
use Rattle.thin_film_solver.specs.declared.ThinFilmLayer.{ThinFilmLayer}
use Rattle.thin_film_layers.specs.Evaluation.{no_layer}
use Rattle.thin_film_layers.proofs.Order.{within, begun, turn, last}
use Rattle.sheet.specs.Internal.{next_place, layers_at}
use Rattle.sheet_values.specs.Values.{films}
use Rattle.sheet_answers.proofs.After.{many, nth}
use Rattle.sheet_answers.proofs.solve.Goals as goal

pub loop-i-init : goal.loop-i-init
loop-i-init c = begun _ _ _ _ c.identity-ms.ensures c.identity-mp.ensures

pub loop-i-preserved : goal.loop-i-preserved
loop-i-preserved c =
    let src : List ℕ = c.args.src.now in
    let from : ℕ = next_place src c.args.at in
    let n : ℕ = c.args.n in
    let w : Float = c.args.wavelength_nm in
    turn _ _ (films w (layers_at src from n)) n _ _ no_layer _ _ _ _ _ _ (sym (many w src from n)) c.loop-i-test.true c.nth_index-j.ensures
    (c.layer_after.ensures ∙ sym (nth w src from n _ no_layer (omega (arith, c.nth_index-j.ensures, within c.args.reversed n c.loop-i.i c.loop-i-test.true)))) c.terms_of-terms.ensures c.step_s-next_s.ensures c.step_p-next_p.ensures c.loop-i.invariant

pub returns : goal.returns
returns c =
    let ls : List ThinFilmLayer = films c.args.wavelength_nm (layers_at c.args.src.now (next_place c.args.src.now c.args.at) c.args.n) in
    let n_is : length ls ≡ c.args.n = many _ _ _ _ in
    c.finish.ensures ∙ last _ _ ls _ _ c.loop-i.i (omega arith) c.loop-i.invariant
