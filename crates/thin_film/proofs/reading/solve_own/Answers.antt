-- `thin_film::reading::solve_own` meets its contract. Assumes nothing.
use native.Mathlib.Omega.{arith}
use mathlib.Core.Path.{◌∙◌}
use mathlib.Core.List.{[]}
use Rattle.thin_film_layers.specs.Evaluation.{no_layer}
use Rattle.thin_film_layers.proofs.Order.{begun, turn, last}
use Rattle.thin_film.specs.Coating.{layers_of}
use Rattle.thin_film.proofs.reading.solve_own.Goals as goal

pub loop-i-init : goal.loop-i-init
loop-i-init c = begun _ _ _ _ c.identity-ms.ensures c.identity-mp.ensures

pub loop-i-preserved : goal.loop-i-preserved
loop-i-preserved c =
    turn _ _ (layers_of c.args.coating []) _ _ _ no_layer _ _ _ _ _ _ c.own_count-n.ensures c.loop-i-test.true c.nth_index-j.ensures c.own_layer.ensures c.terms_of-terms.ensures c.step_s-next_s.ensures c.step_p-next_p.ensures c.loop-i.invariant

pub returns : goal.returns
returns c =
    c.finish.ensures ∙ last _ _ (layers_of c.args.coating []) _ _ c.loop-i.i (omega (arith, c.own_count-n.ensures)) c.loop-i.invariant
