-- `math_trig::fold` meets its contract. Assumes nothing.
use mathlib.Core.Path.{sym}
use borrow.Author.Rules.{rules}
use Rattle.math_trig.specs.Trig.{wrap, fold}
use Rattle.math_trig.proofs.Constants.{minus_pi_is}
use Rattle.math_trig.proofs.fold.Goals as goal

pub first_line-r-requires : goal.first_line-r-requires
first_line-r-requires c = search rules

pub returns-then-r : goal.returns-then-r
unfolding fold wrap
returns-then-r c = simp (sym c.first_line-r.ensures, c.if-r.true)

pub returns-then-r-2 : goal.returns-then-r-2
unfolding fold wrap
returns-then-r-2 c = simp (sym c.first_line-r.ensures, c.if-r.false, minus_pi_is, c.if-r-2.true)

pub returns-else-r-2 : goal.returns-else-r-2
unfolding fold wrap
returns-else-r-2 c = simp (sym c.first_line-r.ensures, c.if-r.false, minus_pi_is, c.if-r-2.false)
