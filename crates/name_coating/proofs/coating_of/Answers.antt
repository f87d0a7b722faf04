-- `name_coating::coating_of` meets its contract. Assumes nothing.
use mathlib.Core.Path.{sym}
use Rattle.name_coating.specs.Name.{coating_of}
use Rattle.name_coating.proofs.coating_of.Goals as goal

pub returns-then-names_none : goal.returns-then-names_none
unfolding coating_of
returns-then-names_none c = simp (sym c.names_none.ensures, c.if-names_none.true)

pub returns-then-names_mgf2 : goal.returns-then-names_mgf2
unfolding coating_of
returns-then-names_mgf2 c = simp (c.mgf2_default.ensures, sym c.names_none.ensures, sym c.names_mgf2.ensures, c.if-names_none.false, c.if-names_mgf2.true)

pub returns-then-names_bbar : goal.returns-then-names_bbar
unfolding coating_of
returns-then-names_bbar c = simp (sym c.names_none.ensures, sym c.names_mgf2.ensures, sym c.names_bbar.ensures, c.if-names_none.false, c.if-names_mgf2.false, c.if-names_bbar.true)

pub returns-then-names_mirror : goal.returns-then-names_mirror
unfolding coating_of
returns-then-names_mirror c = simp (sym c.names_none.ensures, sym c.names_mgf2.ensures, sym c.names_bbar.ensures, sym c.names_mirror.ensures, c.if-names_none.false, c.if-names_mgf2.false, c.if-names_bbar.false, c.if-names_mirror.true)

pub returns-then-names_ar : goal.returns-then-names_ar
unfolding coating_of
returns-then-names_ar c = simp (sym c.names_none.ensures, sym c.names_mgf2.ensures, sym c.names_bbar.ensures, sym c.names_mirror.ensures, sym c.names_ar.ensures, c.if-names_none.false, c.if-names_mgf2.false, c.if-names_bbar.false, c.if-names_mirror.false, c.if-names_ar.true)

pub returns-else-names_ar : goal.returns-else-names_ar
unfolding coating_of
returns-else-names_ar c = simp (sym c.names_none.ensures, sym c.names_mgf2.ensures, sym c.names_bbar.ensures, sym c.names_mirror.ensures, sym c.names_ar.ensures, c.if-names_none.false, c.if-names_mgf2.false, c.if-names_bbar.false, c.if-names_mirror.false, c.if-names_ar.false)
