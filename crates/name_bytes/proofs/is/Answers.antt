-- `name_bytes::is` meets its contract. Assumes nothing.
use borrow.Author.Tests.{eq-eqb, ne_eqb}
use Rattle.name_bytes.specs.Search.{is}
use Rattle.name_bytes.proofs.is.Goals as goal

pub returns-then-s-p : goal.returns-then-s-p
unfolding is
returns-then-s-p c = simp (eq-eqb _ _ c.if-s-p.true) c.begins.ensures

pub returns-else-s-p : goal.returns-else-s-p
unfolding is
returns-else-s-p c = simp (ne_eqb _ _ c.if-s-p.false)
