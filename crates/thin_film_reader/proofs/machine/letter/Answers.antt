-- `thin_film_reader::machine::letter` meets its contract. Assumes nothing.
use mathlib.Core.Path.{sym, ◌∙◌}
use Rattle.thin_film_reader.proofs.Steps as Steps
use Rattle.thin_film_reader.proofs.machine.letter.Goals as goal

pub returns-then-not-takes_letter : goal.returns-then-not-takes_letter
returns-then-not-takes_letter c = Steps.no_letter _ _ (sym c.takes_letter.ensures ∙ c.if-not-takes_letter.true) c.stopped.ensures

pub returns : goal.returns
returns c = Steps.letters _ (sym c.takes_letter.ensures ∙ c.if-not-takes_letter.false) c.requires
