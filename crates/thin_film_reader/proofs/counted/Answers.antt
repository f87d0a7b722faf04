-- `thin_film_reader::counted` meets its contract. Assumes nothing.
use borrow.Author.Tests.{lt-leb, le-leb}
use Rattle.thin_film_reader.proofs.counted.Goals as goal

pub returns-then-count-gt64 : goal.returns-then-count-gt64
returns-then-count-gt64 c = simp (lt-leb _ _ c.if-count-gt64.true)

pub returns : goal.returns
returns c = simp (le-leb _ _ c.if-count-gt64.false)
