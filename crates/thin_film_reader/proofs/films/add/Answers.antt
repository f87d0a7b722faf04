-- `thin_film_reader::films::add` meets its contract. Assumes nothing.
use Rattle.thin_film_reader.proofs.films.add.Goals as goal

pub returns : goal.returns
returns c = simp c.push-g.ensures
