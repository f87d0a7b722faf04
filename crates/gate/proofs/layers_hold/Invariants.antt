-- `gate::layers_hold` meets its contract. The loop's invariant: the SURFACEs that are left hold exactly where all of them do. Assumes nothing.
use mathlib.Core.Path.{◌≡◌}
use Prim.Native.Nat.{◌-◌}
use Rattle.gate.specs.Internal.{layers_hold_at}
use Rattle.gate.proofs.layers_hold.Given as goal

abbrev pub invariant-loop : goal.invariant-loop
invariant-loop l = layers_hold_at (l.n - l.counter) l.src l.place l.wavelength_nm ≡ layers_hold_at l.n l.src l.at l.wavelength_nm
