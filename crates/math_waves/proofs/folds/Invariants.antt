-- `math_waves::folds` meets its contract. Assumes nothing.
use mathlib.Core.Path.{◌≡◌}
use Rattle.math_trig.specs.Internal.{near_line}
use Rattle.math_waves.specs.Waves.{each_first}
use Rattle.math_waves.specs.Internal.{all_near, near_fold, near_square}
use Rattle.math_waves.proofs.folds.Given as goal

abbrev pub invariant-loop-i : goal.invariant-loop-i
invariant-loop-i l =
    (l.all ≡ all_near l.x l.i) × ((l.r ≡ each_first near_line l.x l.i l.initial.r) × ((l.a ≡ each_first near_fold l.x l.i l.initial.a) × (l.z ≡ each_first near_square l.x l.i l.initial.z)))
