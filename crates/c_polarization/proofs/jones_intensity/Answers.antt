-- `c_polarization::jones_intensity` meets its contract. Assumes nothing.
use mathlib.Core.Path.{ap, ◌∙◌}
use mathlib.Core.List.{List}
use lib.Ieee.{Float}
use Rattle.polarization_stokes.specs.Jones.{intensity}
use Rattle.c_call.specs.Layout.{alone}
use Rattle.c_polarization.specs.Numbers.{vector}
use Rattle.c_polarization.proofs.Taken.{refused, wrote}
use borrow.Author.Rules.{rules}
use Rattle.c_polarization.proofs.jones_intensity.Goals as goal

pub returns-then-numbers-ne4 : goal.returns-then-numbers-ne4
returns-then-numbers-ne4 c = refused alone 4 (λ (given : List Float). intensity (vector given)) c.args.numbers.now _ _ c.if-numbers-ne4.true c.packed.ensures

pub returns : goal.returns
returns c = wrote alone 4 (λ (given : List Float). intensity (vector given)) c.args.numbers.now _ _ _ c.if-numbers-ne4.false (c.intensity.ensures ∙ ap intensity c.vector.ensures) c.put_one.ensures
