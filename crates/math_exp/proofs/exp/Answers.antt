-- `math_exp::exp` meets its contract. Assumes nothing.
use borrow.Author.Rules.{rules}
use lib.Ieee.{is_nan}
use Rattle.math_exp.specs.Exp.{exp_at, exp}
use Rattle.ieee.proofs.Signs.{is_nan_lem, not_nan, inf_is}
use Rattle.math_exp.proofs.Constants.{exp_least_is}
use Rattle.math_exp.proofs.exp.Goals as goal

pub returns-then-x : goal.returns-then-x
unfolding exp is_nan
returns-then-x c = simp (is_nan_lem _ c.if-x.true)

pub returns-then-x-2 : goal.returns-then-x-2
unfolding exp
returns-then-x-2 c = simp (not_nan _ c.if-x.false, c.if-x-2.true) inf_is

pub returns-then-x-3 : goal.returns-then-x-3
unfolding exp
returns-then-x-3 c = simp (not_nan _ c.if-x.false, c.if-x-2.false, exp_least_is, c.if-x-3.true)

pub returns-else-x-3 : goal.returns-else-x-3
unfolding exp exp_at
returns-else-x-3 c =
    simp (not_nan _ c.if-x.false, c.if-x-2.false, exp_least_is, c.if-x-3.false, c.squares.ensures, c.exp_series.ensures)
