-- `c_layers::stack_of` meets its contract. Assumes nothing.
use Prim.Native.Nat.{◌-◌, ◌≤◌}
use Rattle.thin_film_layers.specs.Evaluation.{ordered}
use Rattle.surface_real.proofs.Turns.{Left}
use Rattle.c_layers.specs.Evaluate.{layers}
use Rattle.c_layers.proofs.stack_of.Given as goal

abbrev pub invariant-loop-i : goal.invariant-loop-i
invariant-loop-i l = (l.i ≤ l.n) × Left l.light.snell l.light.wavelength_nm l.stack l.i (ordered l.reversed (layers l.flat))

abbrev pub decreases-loop-i : goal.decreases-loop-i
decreases-loop-i l = l.n - l.i
