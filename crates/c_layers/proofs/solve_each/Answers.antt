-- `c_layers::solve_each` meets its contract. Assumes nothing.
use Prim.Native.Nat.{ℕ, ◌/◌}
use native.Mathlib.Omega.{arith}
use mathlib.Core.Path.{sym, ◌∙◌}
use mathlib.Core.List.{List}
use lib.ListN.{length}
use lib.Ieee.{Float}
use Rattle.thin_film_layers.specs.Evaluation.{no_layer}
use Rattle.thin_film_layers.proofs.Order.{within, begun, turn, last}
use Rattle.c_layers.specs.Evaluate.{layers}
use Rattle.c_layers.proofs.Triples.{count}
use Rattle.c_layers.proofs.solve_each.Goals as goal

pub loop-i-init : goal.loop-i-init
loop-i-init c = begun _ _ _ _ c.identity-ms.ensures c.identity-mp.ensures

pub layer_at-requires : goal.layer_at-requires
layer_at-requires c =
    let n : ℕ = length c.args.flat.now / 3 in
    omega (arith, c.nth_index-j.ensures, within c.args.reversed n c.loop-i.i c.loop-i-test.true)

pub loop-i-preserved : goal.loop-i-preserved
loop-i-preserved c =
    let flat : List Float = c.args.flat.now in
    turn _ _ (layers flat) _ _ _ no_layer _ _ _ _ _ _ (sym (count flat)) c.loop-i-test.true c.nth_index-j.ensures c.layer_at.ensures c.terms_of-terms.ensures c.step_s-next_s.ensures c.step_p-next_p.ensures c.loop-i.invariant

pub returns : goal.returns
returns c =
    let flat : List Float = c.args.flat.now in
    c.finish.ensures ∙ last _ _ (layers flat) _ _ c.loop-i.i (omega (arith, count flat)) c.loop-i.invariant
