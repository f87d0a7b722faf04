-- `band::first_wavelength_outside` meets its contract. Assumes nothing.
use mathlib.Core.Path.{◌≡◌}
use Prim.Native.Nat.{◌+◌}
use lib.ListN.{drop}
use Rattle.gate.specs.Internal.{holds_at}
use Rattle.band.specs.Internal.{first_false}
use Rattle.band.proofs.first_wavelength_outside.Given as goal

abbrev pub invariant-loop-i : goal.invariant-loop-i
invariant-loop-i l = first_false (holds_at l.src 0 l.count) l.wavelengths ≡ l.i + first_false (holds_at l.src 0 l.count) (drop l.i l.wavelengths)
