-- `c_polarization::diattenuator` meets its contract. Assumes nothing.
use mathlib.Core.Path.{ap}
use mathlib.Core.List.{List}
use lib.Ieee.{Float}
use Rattle.polarization_stokes.specs.declared.JonesVector.{JonesVector}
use Rattle.polarization_mueller.specs.Jones.{diattenuator}
use Rattle.c_call.specs.Layout.{entries}
use Rattle.c_polarization.specs.Numbers.{vector}
use Rattle.c_polarization.proofs.Taken.{refused, wrote}
use borrow.Author.Rules.{rules}
use Rattle.c_polarization.proofs.diattenuator.Goals as goal

pub returns-then-numbers-ne4 : goal.returns-then-numbers-ne4
returns-then-numbers-ne4 c = refused entries 4 (λ (given : List Float). diattenuator (vector given).ex (vector given).ey) c.args.numbers.now _ _ c.if-numbers-ne4.true c.packed.ensures

pub returns : goal.returns
returns c = wrote entries 4 (λ (given : List Float). diattenuator (vector given).ex (vector given).ey) c.args.numbers.now _ _ _ c.if-numbers-ne4.false (ap (λ (v : JonesVector). diattenuator v.ex v.ey) c.vector.ensures) c.diattenuating.ensures
