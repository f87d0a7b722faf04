-- `c_polarization::stokes_figures` meets its contract. Assumes nothing.
use mathlib.Core.List.{List}
use lib.Ieee.{Float}
use Rattle.c_polarization.specs.Numbers.{stokes, figures}
use Rattle.c_polarization.proofs.Taken.{refused, wrote}
use borrow.Author.Rules.{rules}
use Rattle.c_polarization.proofs.stokes_figures.Goals as goal

pub returns-then-numbers-ne4 : goal.returns-then-numbers-ne4
returns-then-numbers-ne4 c = refused figures 4 (λ (given : List Float). stokes given) c.args.numbers.now _ _ c.if-numbers-ne4.true c.packed.ensures

pub returns : goal.returns
returns c = wrote figures 4 (λ (given : List Float). stokes given) c.args.numbers.now _ _ _ c.if-numbers-ne4.false c.stokes.ensures c.put_figures.ensures
