-- `math_sqrt::root_by_digits` meets its contract. The invariant is `Digits` (`proofs/Digits.antt`), and the measure is `step`, which halves. Assumes nothing.
use Rattle.std.proofs.Common.{◌*◌, ◌^◌, arith}
use Rattle.math_sqrt.proofs.Digits.{first, taken, missed, last}
use Rattle.math_sqrt.proofs.root_by_digits.Goals as goal

pub loop-step-init : goal.loop-step-init
loop-step-init c = first c.args.d c.requires

pub overflow_mul-t : goal.overflow_mul-t
overflow_mul-t c = omega arith

pub overflow_add-t : goal.overflow_add-t
overflow_add-t c = omega arith

pub overflow_mul-left : goal.overflow_mul-left
overflow_mul-left c = omega arith

pub overflow_add-q : goal.overflow_add-q
overflow_add-q c = omega arith

pub loop-step-smaller-then-t-left : goal.loop-step-smaller-then-t-left
loop-step-smaller-then-t-left c = omega arith

pub loop-step-preserved-then-t-left : goal.loop-step-preserved-then-t-left
loop-step-preserved-then-t-left c =
    let l = c.loop-step in
    taken (c.args.d * 2 ^ 52) l.q l.left l.step l.invariant c.loop-step-test.true c.if-t-left.true

pub overflow_mul-left-else-t-left : goal.overflow_mul-left-else-t-left
overflow_mul-left-else-t-left c = omega arith

pub loop-step-smaller : goal.loop-step-smaller
loop-step-smaller c = omega arith

pub loop-step-preserved : goal.loop-step-preserved
loop-step-preserved c =
    let l = c.loop-step in
    missed (c.args.d * 2 ^ 52) l.q l.left l.step l.invariant c.loop-step-test.true c.if-t-left.false

pub returns : goal.returns
returns c =
    let l = c.loop-step in
    last (c.args.d * 2 ^ 52) l.q l.left l.step l.invariant c.loop-step-test.false
