-- `math_waves::quick_step` meets its contract. Assumes nothing.
use mathlib.Core.Path.{◌≡◌}
use Rattle.math_waves.specs.Internal.{quick_step, stepped}
use Rattle.math_waves.proofs.quick_step.Given as goal

abbrev pub invariant-loop-i : goal.invariant-loop-i
invariant-loop-i l = l.p ≡ stepped (quick_step l.a l.b l.y l.u) l.z l.i l.initial.p
