-- `c_polarization::jones_normalize` meets its contract. Assumes nothing.
use mathlib.Core.Path.{ap, ◌∙◌}
use mathlib.Core.List.{List}
use lib.Ieee.{Float}
use Rattle.polarization_stokes.specs.Jones.{normalize}
use Rattle.c_polarization.specs.Numbers.{vector, parts}
use Rattle.c_polarization.proofs.Taken.{refused, wrote}
use borrow.Author.Rules.{rules}
use Rattle.c_polarization.proofs.jones_normalize.Goals as goal

pub returns-then-numbers-ne4 : goal.returns-then-numbers-ne4
returns-then-numbers-ne4 c = refused parts 4 (λ (given : List Float). normalize (vector given)) c.args.numbers.now _ _ c.if-numbers-ne4.true c.packed.ensures

pub returns : goal.returns
returns c = wrote parts 4 (λ (given : List Float). normalize (vector given)) c.args.numbers.now _ _ _ c.if-numbers-ne4.false (c.normalize.ensures ∙ ap normalize c.vector.ensures) c.put_vector.ensures
