-- `thin_film_reader::films::letter` meets its contract. Assumes nothing.
use mathlib.Core.Path.{◌∙◌}
use Rattle.thin_film_reader.proofs.films.letter.Goals as goal

pub returns : goal.returns
returns c = c.add.ensures ∙ simp c.multiplier.ensures
