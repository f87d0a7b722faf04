-- `sheet::plain_floats_again` meets its contract. Assumes nothing.
use native.Mathlib.Omega.{arith}
use Rattle.sheet.proofs.Plain.{none, long, all}
use mathlib.Core.Path.{ap}
use mathlib.Core.Bool.{not}
use Rattle.sheet.proofs.plain_floats_again.Goals as goal

pub returns-then-not-stands_whole : goal.returns-then-not-stands_whole
returns-then-not-stands_whole c = none _ _ _ c.stands_whole.ensures (ap not c.if-not-stands_whole.true)

pub overflow_add-at : goal.overflow_add-at
overflow_add-at c = record { fits = omega (arith, long _ _ _ c.stands_whole.ensures (ap not c.if-not-stands_whole.false)) }

pub float_in-requires : goal.float_in-requires
float_in-requires c = omega (arith, long _ _ _ c.stands_whole.ensures (ap not c.if-not-stands_whole.false))

pub overflow_add-at-2 : goal.overflow_add-at-2
overflow_add-at-2 c = record { fits = omega (arith, long _ _ _ c.stands_whole.ensures (ap not c.if-not-stands_whole.false)) }

pub float_in-requires-2 : goal.float_in-requires-2
float_in-requires-2 c = omega (arith, long _ _ _ c.stands_whole.ensures (ap not c.if-not-stands_whole.false))

pub overflow_add-at-3 : goal.overflow_add-at-3
overflow_add-at-3 c = record { fits = omega (arith, long _ _ _ c.stands_whole.ensures (ap not c.if-not-stands_whole.false)) }

pub float_in-requires-3 : goal.float_in-requires-3
float_in-requires-3 c = omega (arith, long _ _ _ c.stands_whole.ensures (ap not c.if-not-stands_whole.false))

pub returns : goal.returns
returns c = all _ _ _ c.stands_whole.ensures (ap not c.if-not-stands_whole.false) _ _ _ c.float_in.ensures c.float_in-2.ensures c.float_in-3.ensures
