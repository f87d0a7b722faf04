-- `math_waves::at_once` meets its contract. Assumes nothing.
use mathlib.Core.Path.{◌≡◌}
use Rattle.math_waves.specs.Waves.{each_first}
use Rattle.math_waves.specs.Internal.{all_near, near_sin, near_cos}
use Rattle.math_waves.proofs.at_once.Given as goal

abbrev pub invariant-loop-i : goal.invariant-loop-i
invariant-loop-i l =
    (l.all ≡ all_near l.x l.i) × ((l.sin ≡ each_first near_sin l.x l.i l.initial.sin) × (l.cos ≡ each_first near_cos l.x l.i l.initial.cos))
