-- `gate::metal_layers` meets its contract. The loop's invariant: what is left passes with the sum so far exactly where all of them do. Assumes nothing.
use mathlib.Core.Path.{◌≡◌}
use Prim.Native.Nat.{◌-◌}
use Rattle.ieee.specs.Functions.{zero_f}
use Rattle.sheet.specs.Internal.{layers_at}
use Rattle.gate.specs.Internal.{metal_layers}
use Rattle.gate.proofs.metal_layers.Given as goal

abbrev pub invariant-loop : goal.invariant-loop
invariant-loop l = metal_layers l.wavelength_nm l.sum (layers_at l.src l.place (l.n - l.counter)) ≡ metal_layers l.wavelength_nm zero_f (layers_at l.src l.at l.n)
