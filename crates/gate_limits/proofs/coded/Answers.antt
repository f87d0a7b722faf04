-- `gate_limits::coded` meets its contract. Assumes nothing.
use borrow.Author.Tests.{ne_eqb}
use Rattle.gate_limits.specs.Coating.{coded}
use Rattle.gate_limits.proofs.coded.Goals as goal

pub returns-then-code-eq1 : goal.returns-then-code-eq1
unfolding coded
returns-then-code-eq1 c = simp c.if-code-eq1.true

pub returns-then-code-eq2 : goal.returns-then-code-eq2
unfolding coded
returns-then-code-eq2 c = simp c.if-code-eq2.true

pub returns-then-code-eq3 : goal.returns-then-code-eq3
unfolding coded
returns-then-code-eq3 c = simp c.if-code-eq3.true

pub returns-then-code-eq4 : goal.returns-then-code-eq4
unfolding coded
returns-then-code-eq4 c = simp c.if-code-eq4.true

pub returns-then-code-eq5 : goal.returns-then-code-eq5
unfolding coded
returns-then-code-eq5 c = simp c.if-code-eq5.true

pub returns-then-code-eq6 : goal.returns-then-code-eq6
unfolding coded
returns-then-code-eq6 c = simp c.if-code-eq6.true

pub returns-then-code-eq7 : goal.returns-then-code-eq7
unfolding coded
returns-then-code-eq7 c = simp c.if-code-eq7.true

pub returns-else-code-eq7 : goal.returns-else-code-eq7
unfolding coded
returns-else-code-eq7 c = simp (ne_eqb _ _ c.if-code-eq1.false, ne_eqb _ _ c.if-code-eq2.false, ne_eqb _ _ c.if-code-eq3.false, ne_eqb _ _ c.if-code-eq4.false, ne_eqb _ _ c.if-code-eq5.false, ne_eqb _ _ c.if-code-eq6.false, ne_eqb _ _ c.if-code-eq7.false)
