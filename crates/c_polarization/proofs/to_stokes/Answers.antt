-- `c_polarization::to_stokes` meets its contract. Assumes nothing.
use mathlib.Core.Path.{ap, ◌∙◌}
use mathlib.Core.List.{List}
use lib.Ieee.{Float}
use Rattle.polarization_stokes.specs.Jones.{to_stokes}
use Rattle.c_polarization.specs.Numbers.{vector, parameters}
use Rattle.c_polarization.proofs.Taken.{refused, wrote}
use borrow.Author.Rules.{rules}
use Rattle.c_polarization.proofs.to_stokes.Goals as goal

pub returns-then-numbers-ne4 : goal.returns-then-numbers-ne4
returns-then-numbers-ne4 c = refused parameters 4 (λ (given : List Float). to_stokes (vector given)) c.args.numbers.now _ _ c.if-numbers-ne4.true c.packed.ensures

pub returns : goal.returns
returns c = wrote parameters 4 (λ (given : List Float). to_stokes (vector given)) c.args.numbers.now _ _ _ c.if-numbers-ne4.false (c.to_stokes.ensures ∙ ap to_stokes c.vector.ensures) c.put_stokes.ensures
