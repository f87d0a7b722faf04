-- `c_layers::stack_of` meets its contract. Assumes nothing.
use mathlib.Core.Path.{sym}
use mathlib.Core.Bool.{Bool}
use mathlib.Core.List.{List}
use Prim.Native.Nat.{◌/◌}
use native.Mathlib.Omega.{arith}
use lib.ListN.{length}
use lib.Ieee.{Float}
use Rattle.thin_film_layers.specs.Evaluation.{ordered}
use Rattle.surface_real.proofs.Turns.{begun, last}
use Rattle.c_layers.specs.Evaluate.{layers}
use Rattle.c_layers.proofs.Triples.{count}
use Rattle.c_layers.proofs.Chunks.{inside, met, turn}
use Rattle.c_layers.proofs.stack_of.Goals as goal

pub loop-i-init : goal.loop-i-init
loop-i-init c = (omega arith, begun _ _ _ _ c.no_films-stack.ensures)

pub front_of-after-requires : goal.front_of-after-requires
front_of-after-requires c = omega (arith, c.at_most_16-few.ensures.1, c.loop-i-test.true)

pub join_some-stack-requires : goal.join_some-stack-requires
join_some-stack-requires c = (c.at_most_16-few.ensures.0, inside c.args.reversed (length c.args.flat.now / 3) c.loop-i.i c.at_most_16-few.result c.front_of-after.result (omega (arith, c.at_most_16-few.ensures.1, c.loop-i-test.true)) c.front_of-after.ensures)

pub overflow_add-i : goal.overflow_add-i
overflow_add-i c = omega (arith, c.at_most_16-few.ensures.1, c.loop-i-test.true, c.well_formed)

pub loop-i-smaller : goal.loop-i-smaller
loop-i-smaller c = omega (arith, c.at_most_16-few.ensures.2 (omega (arith, c.loop-i-test.true)), c.at_most_16-few.ensures.1, c.loop-i-test.true)

pub loop-i-preserved : goal.loop-i-preserved
loop-i-preserved c =
    let flat : List Float = c.args.flat.now in
    let reversed : Bool = c.args.reversed in
    let few = c.at_most_16-few in (
      omega (arith, few.ensures.1, c.loop-i-test.true),
      turn _ _ (ordered reversed (layers flat)) c.loop-i.i few.result _ _ _
          (met reversed (layers flat) c.loop-i.i few.result _ _ (sym (count flat)) (omega (arith, few.ensures.1, c.loop-i-test.true)) c.front_of-after.ensures)
          c.join_some-stack.ensures c.loop-i.invariant.1,
    )

pub returns : goal.returns
returns c =
    let flat : List Float = c.args.flat.now in
    last _ _ _ (layers flat) _ c.loop-i.i (omega (arith, count flat, c.loop-i.invariant.0, c.loop-i-test.false)) c.loop-i.invariant.1
