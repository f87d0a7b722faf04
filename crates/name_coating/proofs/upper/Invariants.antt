-- `name_coating::upper` meets its contract. Assumes nothing.
use mathlib.Core.Path.{◌≡◌}
use Rattle.name_coating.proofs.UpperCase.{filled}
use Rattle.name_coating.proofs.upper.Given as goal

abbrev pub invariant-loop-i : goal.invariant-loop-i
invariant-loop-i l = l.bytes ≡ filled l.s l.i
