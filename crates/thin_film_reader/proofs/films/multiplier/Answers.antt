-- `thin_film_reader::films::multiplier` meets its contract. Assumes nothing.
use mathlib.Core.Path.{sym, ◌∙◌}
use Rattle.thin_film_reader.proofs.Pushes as Pushes
use Rattle.thin_film_reader.proofs.films.multiplier.Goals as goal

pub returns-then-not-numbered : goal.returns-then-not-numbered
returns-then-not-numbered c = Pushes.no_multiplier c.args.m.phase c.args.m.number (sym c.numbered.ensures ∙ c.if-not-numbered.true)

pub returns : goal.returns
returns c = Pushes.a_multiplier c.args.m.phase _ (sym c.numbered.ensures ∙ c.if-not-numbered.false)
