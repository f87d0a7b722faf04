-- `sheet::floats_after` meets its contract. Assumes nothing.
use borrow.Author.Tests.{ne_eqb}
use Rattle.sheet.specs.Read.{floats_after}
use Rattle.sheet.proofs.floats_after.Goals as goal

pub returns-then-kind-eq2 : goal.returns-then-kind-eq2
unfolding floats_after
returns-then-kind-eq2 c = simp c.if-kind-eq2.true

pub returns-then-kind-eq3 : goal.returns-then-kind-eq3
unfolding floats_after
returns-then-kind-eq3 c = simp c.if-kind-eq3.true

pub returns-then-kind-eq4 : goal.returns-then-kind-eq4
unfolding floats_after
returns-then-kind-eq4 c = simp c.if-kind-eq4.true

pub returns-then-kind-eq6 : goal.returns-then-kind-eq6
unfolding floats_after
returns-then-kind-eq6 c = simp c.if-kind-eq6.true

pub returns-then-kind-eq7 : goal.returns-then-kind-eq7
unfolding floats_after
returns-then-kind-eq7 c = simp c.if-kind-eq7.true

pub returns : goal.returns
unfolding floats_after
returns c = simp (ne_eqb _ _ c.if-kind-eq2.false, ne_eqb _ _ c.if-kind-eq3.false, ne_eqb _ _ c.if-kind-eq4.false, ne_eqb _ _ c.if-kind-eq6.false, ne_eqb _ _ c.if-kind-eq7.false)
