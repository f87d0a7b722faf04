-- `name_coating::names_none` meets its contract. Assumes nothing.
use mathlib.Core.Path.{sym}
use Rattle.name_coating.specs.Name.{names_none}
use Rattle.name_coating.proofs.names_none.Goals as goal

pub returns-then-is : goal.returns-then-is
unfolding names_none
returns-then-is c = simp (sym c.is.ensures, c.if-is.true)

pub returns-then-is-2 : goal.returns-then-is-2
unfolding names_none
returns-then-is-2 c = simp (sym c.is.ensures, sym c.is-2.ensures, c.if-is.false, c.if-is-2.true)

pub returns : goal.returns
unfolding names_none
returns c = simp (c.is-3.ensures, sym c.is.ensures, sym c.is-2.ensures, c.if-is.false, c.if-is-2.false)
