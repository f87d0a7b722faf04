-- `thin_film_reader::films::repeat` meets its contract. Assumes nothing.
use Rattle.thin_film_reader.specs.InternalFilms.{repeated}
use mathlib.Core.Path.{◌≡◌}
use Prim.Native.Nat.{◌≤◌, ◌-◌}
use Rattle.thin_film_reader.proofs.films.repeat.Given as goal

abbrev pub invariant-loop : goal.invariant-loop
invariant-loop l = (l.films.unit ≤ l.films.count) × (repeated l.initial.films l.more ≡ repeated l.films (l.more - l.counter))
