-- `surface_real::films::join_films` meets its contract. Assumes nothing.
use mathlib.Core.Path.{◌≡◌}
use Rattle.surface_real.specs.InternalFilms.{film_here, film_place, joined}
use Rattle.surface_real.proofs.films.join_films.Given as goal

abbrev pub invariant-loop-i : goal.invariant-loop-i
invariant-loop-i l =
    l.product ≡ joined (λ j. film_here l.sin l.cos l.eta_s l.eta_p l.y_s l.y_p (film_place j l.films)) l.reversed l.count l.i l.initial.product
