-- `band::steady::steady` meets its contract. Assumes nothing.
use Rattle.sheet.specs.Internal.{begin}
use Rattle.band.proofs.Always.{Surfaces}
use Rattle.band.proofs.steady.steady.Given as goal

abbrev pub invariant-loop : goal.invariant-loop
invariant-loop l = Surfaces l.src (begin l.src 0) l.count l.place l.counter
