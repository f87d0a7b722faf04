-- `math_waves::one_by_one` meets its contract. Assumes nothing.
use mathlib.Core.Path.{◌≡◌}
use Rattle.math_trig.specs.Trig as Trig
use Rattle.math_waves.specs.Waves.{each_first}
use Rattle.math_waves.proofs.one_by_one.Given as goal

abbrev pub invariant-loop-i : goal.invariant-loop-i
invariant-loop-i l = (l.sin ≡ each_first Trig.sin l.x l.i l.initial.sin) × (l.cos ≡ each_first Trig.cos l.x l.i l.initial.cos)
