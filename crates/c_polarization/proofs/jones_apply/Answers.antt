-- `c_polarization::jones_apply` meets its contract. Assumes nothing.
use mathlib.Core.Path.{◌∙◌}
use mathlib.Core.List.{List}
use lib.Ieee.{Float}
use Rattle.polarization_mueller.specs.Jones.{apply}
use Rattle.c_mueller.specs.Mueller as Matrix
use Rattle.c_polarization.specs.Numbers.{vector, parts}
use Rattle.c_polarization.proofs.Taken.{first_refused, second_refused, wrote_two}
use borrow.Author.Rules.{rules}
use Rattle.c_polarization.proofs.jones_apply.Goals as goal

pub returns-then-matrix-ne8 : goal.returns-then-matrix-ne8
returns-then-matrix-ne8 c = first_refused parts 8 4 (λ (given other : List Float). apply (Matrix.jones given) (vector other)) c.args.matrix.now c.args.numbers.now _ _ c.if-matrix-ne8.true c.packed.ensures

pub returns-then-numbers-ne4 : goal.returns-then-numbers-ne4
returns-then-numbers-ne4 c = second_refused parts 8 4 (λ (given other : List Float). apply (Matrix.jones given) (vector other)) c.args.matrix.now c.args.numbers.now _ _ c.if-matrix-ne8.false c.if-numbers-ne4.true c.packed-then-numbers-ne4.ensures

pub returns : goal.returns
returns c = wrote_two parts 8 4 (λ (given other : List Float). apply (Matrix.jones given) (vector other)) c.args.matrix.now c.args.numbers.now _ _ c.apply.result c.if-matrix-ne8.false c.if-numbers-ne4.false (c.apply.ensures ∙ simp (c.jones.ensures, c.vector.ensures)) c.put_vector.ensures
