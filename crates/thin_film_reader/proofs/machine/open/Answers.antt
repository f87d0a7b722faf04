-- `thin_film_reader::machine::open` meets its contract. Assumes nothing.
use mathlib.Core.Path.{refl, sym, ◌∙◌}
use Rattle.thin_film_reader.proofs.Steps as Steps
use native.Mathlib.Omega.{arith}
use Rattle.thin_film_reader.proofs.machine.open.Goals as goal

pub returns-then-not-rests : goal.returns-then-not-rests
returns-then-not-rests c = Steps.no_open _ _ (sym c.rests.ensures ∙ c.if-not-rests.true) c.stopped.ensures

pub returns-then-m-ge4 : goal.returns-then-m-ge4
returns-then-m-ge4 c = Steps.deep _ _ (sym c.rests.ensures ∙ c.if-not-rests.false) (omega arith) c.stopped-then-m-ge4.ensures

pub returns : goal.returns
returns c = Steps.opens _ _ (sym c.rests.ensures ∙ c.if-not-rests.false) (omega arith) refl
