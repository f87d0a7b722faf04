-- `sheet::place_on` meets its contract. The loop's invariant: what is left to go from here leads where all of it leads. Assumes nothing.
use mathlib.Core.Path.{◌≡◌}
use Prim.Native.Nat.{◌-◌}
use Rattle.sheet.specs.Internal.{place_on}
use Rattle.sheet.proofs.place_on.Given as goal

abbrev pub invariant-loop : goal.invariant-loop
invariant-loop l = place_on l.src l.place (l.n - l.counter) ≡ place_on l.src l.at l.n
