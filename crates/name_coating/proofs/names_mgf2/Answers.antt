-- `name_coating::names_mgf2` meets its contract. Assumes nothing.
use mathlib.Core.Path.{sym}
use Rattle.name_coating.specs.Name.{names_mgf2}
use Rattle.name_coating.proofs.names_mgf2.Goals as goal

pub returns-then-is : goal.returns-then-is
unfolding names_mgf2
returns-then-is c = simp (sym c.is.ensures, c.if-is.true)

pub returns : goal.returns
unfolding names_mgf2
returns c = simp (c.contains.ensures, sym c.is.ensures, c.if-is.false)
