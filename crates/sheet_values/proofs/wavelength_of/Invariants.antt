-- `sheet_values::wavelength_of` meets its contract. Assumes nothing.
use mathlib.Core.Path.{◌≡◌}
use Rattle.sheet.specs.Internal.{begin}
use Rattle.sheet_values.specs.Internal.{wavelength_at}
use Rattle.sheet_values.proofs.wavelength_of.Given as goal

abbrev pub invariant-loop : goal.invariant-loop
invariant-loop l = (l.at ≡ begin l.src l.counter) × (l.held_nm ≡ wavelength_at l.src l.counter)
