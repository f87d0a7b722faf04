-- `thin_film_reader::machine::close` meets its contract. Assumes nothing.
use mathlib.Core.Path.{refl, sym, ◌∙◌}
use borrow.Author.Tests.{not-true, not-false}
use Rattle.thin_film_reader.proofs.Steps as Steps
use native.Mathlib.Omega.{arith}
use Rattle.thin_film_reader.proofs.machine.close.Goals as goal

pub returns-then-not-rests : goal.returns-then-not-rests
returns-then-not-rests c = Steps.no_close _ _ (sym c.rests.ensures ∙ c.if-not-rests.true) c.stopped.ensures

pub returns-then-m-eq0 : goal.returns-then-m-eq0
returns-then-m-eq0 c = Steps.unopened _ _ (sym c.rests.ensures ∙ c.if-not-rests.false) (omega arith) c.stopped-then-m-eq0.ensures

pub returns-then-not-m : goal.returns-then-not-m
returns-then-not-m c = Steps.empty _ _ (sym c.rests.ensures ∙ c.if-not-rests.false) (omega arith) (not-true _ c.if-not-m.true) c.stopped-then-not-m.ensures

pub returns : goal.returns
returns c = Steps.closes _ _ (sym c.rests.ensures ∙ c.if-not-rests.false) (omega arith) (not-false _ c.if-not-m.false) refl c.requires
