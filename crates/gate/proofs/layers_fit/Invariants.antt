-- `gate::layers_fit` meets its contract. The loop's invariant: the layers that are left fit as all of them do. Assumes nothing.
use mathlib.Core.Path.{◌≡◌}
use Prim.Native.Nat.{◌-◌}
use Rattle.sheet.specs.Internal.{layers_at}
use Rattle.gate.specs.Internal.{fits}
use Rattle.gate.proofs.layers_fit.Given as goal

abbrev pub invariant-loop : goal.invariant-loop
invariant-loop l = fits l.wavelength_nm l.snell l.src l.place (layers_at l.src l.place (l.n - l.counter)) ≡ fits l.wavelength_nm l.snell l.src l.at (layers_at l.src l.at l.n)
