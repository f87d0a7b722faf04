-- `c_polarization::mueller_apply` meets its contract. Assumes nothing.
use mathlib.Core.Path.{◌∙◌}
use mathlib.Core.List.{List}
use lib.Ieee.{Float}
use Rattle.polarization_mueller.specs.Mueller.{apply_mueller}
use Rattle.c_polarization.specs.Numbers.{stokes, mueller, parameters}
use Rattle.c_polarization.proofs.Taken.{first_refused, second_refused, wrote_two}
use borrow.Author.Rules.{rules}
use Rattle.c_polarization.proofs.mueller_apply.Goals as goal

pub returns-then-matrix-ne16 : goal.returns-then-matrix-ne16
returns-then-matrix-ne16 c = first_refused parameters 16 4 (λ (given other : List Float). apply_mueller (mueller given) (stokes other)) c.args.matrix.now c.args.numbers.now _ _ c.if-matrix-ne16.true c.packed.ensures

pub returns-then-numbers-ne4 : goal.returns-then-numbers-ne4
returns-then-numbers-ne4 c = second_refused parameters 16 4 (λ (given other : List Float). apply_mueller (mueller given) (stokes other)) c.args.matrix.now c.args.numbers.now _ _ c.if-matrix-ne16.false c.if-numbers-ne4.true c.packed-then-numbers-ne4.ensures

pub returns : goal.returns
returns c = wrote_two parameters 16 4 (λ (given other : List Float). apply_mueller (mueller given) (stokes other)) c.args.matrix.now c.args.numbers.now _ _ c.apply.result c.if-matrix-ne16.false c.if-numbers-ne4.false (c.apply.ensures ∙ simp (c.mueller.ensures, c.stokes.ensures)) c.put_stokes.ensures
