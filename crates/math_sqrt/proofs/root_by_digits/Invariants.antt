-- `math_sqrt::root_by_digits` meets its contract. The invariant is `Digits` (`proofs/Digits.antt`), and the measure is `step`, which halves. Assumes nothing.
use Rattle.std.proofs.Common.{◌*◌, ◌^◌}
use Rattle.math_sqrt.proofs.Digits.{Digits}
use Rattle.math_sqrt.proofs.root_by_digits.Given as goal

abbrev pub invariant-loop-step : goal.invariant-loop-step
invariant-loop-step l = Digits (l.d * 2 ^ 52) l.q l.left l.step

abbrev pub decreases-loop-step : goal.decreases-loop-step
decreases-loop-step l = l.step
