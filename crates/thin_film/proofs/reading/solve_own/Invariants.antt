-- `thin_film::reading::solve_own` meets its contract. Assumes nothing.
use mathlib.Core.List.{[]}
use Rattle.thin_film_layers.specs.Evaluation.{ordered}
use Rattle.thin_film_layers.proofs.Order.{Left}
use Rattle.thin_film.specs.Coating.{layers_of}
use Rattle.thin_film.proofs.reading.solve_own.Given as goal

abbrev pub invariant-loop-i : goal.invariant-loop-i
invariant-loop-i l = Left l.light l.ms l.mp l.i (ordered l.reversed (layers_of l.coating []))
