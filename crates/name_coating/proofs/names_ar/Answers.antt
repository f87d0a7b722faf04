-- `name_coating::names_ar` meets its contract. Assumes nothing.
use mathlib.Core.Path.{sym}
use Rattle.name_coating.specs.Name.{names_ar}
use Rattle.name_coating.proofs.names_ar.Goals as goal

pub returns-then-is : goal.returns-then-is
unfolding names_ar
returns-then-is c = simp (sym c.is.ensures, c.if-is.true)

pub returns-then-contains : goal.returns-then-contains
unfolding names_ar
returns-then-contains c = simp (sym c.is.ensures, sym c.contains.ensures, c.if-is.false, c.if-contains.true)

pub returns : goal.returns
unfolding names_ar
returns c = simp (c.contains-2.ensures, sym c.is.ensures, sym c.contains.ensures, c.if-is.false, c.if-contains.false)
