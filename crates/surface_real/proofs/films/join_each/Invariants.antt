-- `surface_real::films::join_each` meets its contract. Assumes nothing.
use mathlib.Core.Path.{◌≡◌}
use Rattle.surface_real.specs.InternalFilms.{film_at, joined}
use Rattle.surface_real.proofs.films.join_each.Given as goal

abbrev pub invariant-loop-i : goal.invariant-loop-i
invariant-loop-i l = l.product ≡ joined (film_at l.eta_s l.eta_p l.delta) l.reversed l.count l.i l.initial.product
