-- `thin_film_reader::machine::whole` meets its contract. Assumes nothing.
use borrow.Author.Tests.{ne_eqb}
use Rattle.thin_film_reader.proofs.Steps as Steps
use Rattle.thin_film_reader.proofs.machine.whole.Goals as goal

pub returns-then-m-ne0 : goal.returns-then-m-ne0
returns-then-m-ne0 c = simp (ne_eqb _ _ c.if-m-ne0.true)

pub returns-then-not-m : goal.returns-then-not-m
returns-then-not-m c = Steps.holds_none c.args.m c.if-m-ne0.false c.if-not-m.true

pub returns : goal.returns
returns c = Steps.ends_whole c.args.m _ c.if-m-ne0.false c.if-not-m.false c.rests.ensures
