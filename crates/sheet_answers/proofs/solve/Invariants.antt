-- `sheet_answers::solve` meets its contract. Assumes nothing.
use Rattle.thin_film_layers.specs.Evaluation.{ordered}
use Rattle.thin_film_layers.proofs.Order.{Left}
use Rattle.sheet.specs.Internal.{next_place, layers_at}
use Rattle.sheet_values.specs.Values.{films}
use Rattle.sheet_answers.proofs.solve.Given as goal

abbrev pub invariant-loop-i : goal.invariant-loop-i
invariant-loop-i l = Left l.light l.ms l.mp l.i (ordered l.reversed (films l.wavelength_nm (layers_at l.src (next_place l.src l.at) l.n)))
