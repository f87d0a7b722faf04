-- `c_polarization::jones_mul` meets its contract. Assumes nothing.
use mathlib.Core.Path.{◌∙◌}
use mathlib.Core.List.{List}
use lib.Ieee.{Float}
use Rattle.polarization_mueller.specs.Jones.{mul}
use Rattle.c_call.specs.Layout.{entries}
use Rattle.c_mueller.specs.Mueller as Matrix
use Rattle.c_polarization.proofs.Taken.{first_refused, second_refused, wrote_two}
use borrow.Author.Rules.{rules}
use Rattle.c_polarization.proofs.jones_mul.Goals as goal

pub returns-then-matrix-ne8 : goal.returns-then-matrix-ne8
returns-then-matrix-ne8 c = first_refused entries 8 8 (λ (given other : List Float). mul (Matrix.jones given) (Matrix.jones other)) c.args.matrix.now c.args.numbers.now _ _ c.if-matrix-ne8.true c.packed.ensures

pub returns-then-numbers-ne8 : goal.returns-then-numbers-ne8
returns-then-numbers-ne8 c = second_refused entries 8 8 (λ (given other : List Float). mul (Matrix.jones given) (Matrix.jones other)) c.args.matrix.now c.args.numbers.now _ _ c.if-matrix-ne8.false c.if-numbers-ne8.true c.packed-then-numbers-ne8.ensures

pub returns : goal.returns
returns c = wrote_two entries 8 8 (λ (given other : List Float). mul (Matrix.jones given) (Matrix.jones other)) c.args.matrix.now c.args.numbers.now _ _ c.mul.result c.if-matrix-ne8.false c.if-numbers-ne8.false (c.mul.ensures ∙ simp (c.jones.ensures, c.jones-2.ensures)) c.put_jones.ensures
