-- `sheet::begin_of` meets its contract. Assumes nothing.
use mathlib.Core.Path.{◌≡◌}
use Rattle.sheet.specs.Internal.{begin}
use Rattle.sheet.proofs.begin_of.Given as goal

abbrev pub invariant-loop : goal.invariant-loop
invariant-loop l = l.at ≡ begin l.src l.counter
