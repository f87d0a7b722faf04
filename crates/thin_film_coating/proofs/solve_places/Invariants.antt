-- `thin_film_coating::solve_places` meets its contract. Assumes nothing.
use lib.ListN.{take}
use Rattle.thin_film_layers.specs.Evaluation.{ordered}
use Rattle.thin_film_layers.proofs.Order.{Left}
use Rattle.thin_film_coating.proofs.solve_places.Given as goal

abbrev pub invariant-loop-i : goal.invariant-loop-i
invariant-loop-i l = Left l.light l.ms l.mp l.i (ordered l.reversed (take l.count l.items))
