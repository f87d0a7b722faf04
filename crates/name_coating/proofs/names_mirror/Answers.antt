-- `name_coating::names_mirror` meets its contract. Assumes nothing.
use mathlib.Core.Path.{sym}
use Rattle.name_coating.specs.Name.{names_mirror}
use Rattle.name_coating.proofs.names_mirror.Goals as goal

pub returns-then-is : goal.returns-then-is
unfolding names_mirror
returns-then-is c = simp (sym c.is.ensures, c.if-is.true)

pub returns-then-contains : goal.returns-then-contains
unfolding names_mirror
returns-then-contains c = simp (sym c.is.ensures, sym c.contains.ensures, c.if-is.false, c.if-contains.true)

pub returns : goal.returns
unfolding names_mirror
returns c = simp (c.is-2.ensures, sym c.is.ensures, sym c.contains.ensures, c.if-is.false, c.if-contains.false)
