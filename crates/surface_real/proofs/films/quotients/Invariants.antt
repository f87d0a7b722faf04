-- `surface_real::films::quotients` meets its contract. Assumes nothing.
use mathlib.Core.Path.{◌≡◌}
use Rattle.math_waves.specs.Waves.{written}
use Rattle.surface_real.specs.Internal.{over}
use Rattle.surface_real.specs.InternalFilms.{at}
use Rattle.surface_real.proofs.films.quotients.Given as goal

abbrev pub invariant-loop-i : goal.invariant-loop-i
invariant-loop-i l =
    (l.y_s ≡ written (λ j. over (at l.sin j) (at l.eta_s j)) l.i l.initial.y_s) × (l.y_p ≡ written (λ j. over (at l.sin j) (at l.eta_p j)) l.i l.initial.y_p)
