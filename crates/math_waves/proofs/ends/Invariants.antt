-- `math_waves::ends` meets its contract. Assumes nothing.
use mathlib.Core.Path.{◌≡◌}
use Rattle.math_waves.specs.Waves.{written}
use Rattle.math_waves.specs.Internal.{at, sin_end, cos_end}
use Rattle.math_waves.proofs.ends.Given as goal

abbrev pub invariant-loop-i : goal.invariant-loop-i
invariant-loop-i l =
    (l.sin ≡ written (λ j. sin_end (at l.a j) (at l.s j)) l.i l.initial.sin) × (l.cos ≡ written (λ j. cos_end (at l.r j) (at l.c j)) l.i l.initial.cos)
