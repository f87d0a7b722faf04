-- How what a text gives is handed over. Definitions only.
use Rattle.std.specs.Prelude.{cond, List, ◌++◌, ◌-◌, leb, length, replicate}
use Rattle.refusal.specs.Outcome.{Outcome, answer, refusal}
use Rattle.thin_film_grammar.specs.declared.Film.{Film}
use Rattle.thin_film_reader.specs.declared.films.Films.{Films}
use Rattle.thin_film_reader.specs.declared.Reading.{Reading}
use Rattle.thin_film_reader.specs.InternalFilms.{no_film}

-- the films in the first of 64 places
abbrev pub placed : List Film → Reading
placed l = record { films = l ++ replicate (64 - length l) no_film; count = length l }

-- the films so far at the end of a text
abbrev pub kept_films : Films → Outcome Reading
kept_films f = cond (leb f.count 64) (answer (record { films = f.items; count = f.count })) (refusal 10 0)
