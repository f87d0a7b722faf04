-- `thin_film_reader::films::close` meets its contract. Assumes nothing.
use Rattle.thin_film_reader.proofs.films.close.Goals as goal

pub overflow_sub-result : goal.overflow_sub-result
overflow_sub-result c = c.requires.0.marks _
