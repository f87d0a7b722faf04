-- `band::steady::layers_steady` meets its contract. Assumes nothing.
use Rattle.band.proofs.Always.{Layers}
use Rattle.band.proofs.steady.layers_steady.Given as goal

abbrev pub invariant-loop : goal.invariant-loop
invariant-loop l = Layers l.src l.at l.n l.snell l.place l.counter
