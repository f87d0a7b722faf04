-- `math_waves::step` meets its contract. Assumes nothing.
use mathlib.Core.Path.{◌≡◌}
use Rattle.math_waves.specs.Internal.{step, stepped}
use Rattle.math_waves.proofs.step.Given as goal

abbrev pub invariant-loop-i : goal.invariant-loop-i
invariant-loop-i l = l.p ≡ stepped (step l.c) l.z l.i l.initial.p
