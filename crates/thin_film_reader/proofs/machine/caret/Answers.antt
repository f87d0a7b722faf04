-- `thin_film_reader::machine::caret` meets its contract. Assumes nothing.
use mathlib.Core.Path.{sym, ◌∙◌}
use Rattle.thin_film_reader.proofs.Steps as Steps
use Rattle.thin_film_reader.proofs.machine.caret.Goals as goal

pub returns-then-not-takes_power : goal.returns-then-not-takes_power
returns-then-not-takes_power c = Steps.no_caret _ _ (sym c.takes_power.ensures ∙ c.if-not-takes_power.true) c.stopped.ensures

pub returns : goal.returns
returns c = Steps.carets _ (sym c.takes_power.ensures ∙ c.if-not-takes_power.false) c.requires
