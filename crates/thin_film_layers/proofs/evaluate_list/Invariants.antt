-- `thin_film_layers::evaluate_list` meets its contract. The loop's invariant: what is left of the layers leads to the response of all of them. Assumes nothing.
use Rattle.thin_film_layers.proofs.Order.{Left, reading}
use Rattle.thin_film_layers.specs.Internal.{light_in}
use Rattle.thin_film_layers.proofs.evaluate_list.Given as goal

abbrev pub invariant-loop-i : goal.invariant-loop-i
invariant-loop-i l = Left (light_in l.prepared) l.ms l.mp l.i (reading l.prepared l.layers)
