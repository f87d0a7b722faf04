-- `thin_film_reader::films::push` meets its contract. Assumes nothing.
use mathlib.Core.Path.{◌∙◌}
use Rattle.thin_film_reader.proofs.Pushes as Pushes
use Rattle.thin_film_reader.proofs.films.push.Goals as goal

pub returns-then-count-ge64 : goal.returns-then-count-ge64
returns-then-count-ge64 c = c.over.ensures ∙ Pushes.push_over _ _ c.if-count-ge64.true

pub returns : goal.returns
returns c = Pushes.push_fits c.args.f c.args.film c.if-count-ge64.false
