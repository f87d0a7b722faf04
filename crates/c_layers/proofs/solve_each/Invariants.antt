-- `c_layers::solve_each` meets its contract. Assumes nothing.
use Rattle.thin_film_layers.specs.Evaluation.{ordered}
use Rattle.thin_film_layers.proofs.Order.{Left}
use Rattle.c_layers.specs.Evaluate.{layers}
use Rattle.c_layers.proofs.solve_each.Given as goal

abbrev pub invariant-loop-i : goal.invariant-loop-i
invariant-loop-i l = Left l.light l.ms l.mp l.i (ordered l.reversed (layers l.flat))
