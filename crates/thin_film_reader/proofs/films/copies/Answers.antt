-- `thin_film_reader::films::copies` meets its contract. Assumes nothing.
use Rattle.thin_film_reader.proofs.Pushes as Pushes
use Rattle.thin_film_reader.proofs.films.copies.Goals as goal

pub returns-in-Caret : goal.returns-in-Caret
returns-in-Caret c = Pushes.at_caret _ _ _ _ c.in-Caret.is c.one_less.ensures

pub returns-in-Power1 : goal.returns-in-Power1
returns-in-Power1 c = Pushes.at_power _ c.args.m.number c.args.a _ c.in-Power1.is (simp (c.wide.ensures, c.wide-in-Power1.ensures))
