-- `sheet::grammar` meets its contract. The loop's invariant: what is left from this place on, with the SURFACEs so far, tallies to the whole sheet's count.
-- The measure is what is left of the words. Assumes nothing.
use mathlib.Core.Path.{◌≡◌}
use Prim.Native.Nat.{◌-◌, ◌≤◌}
use Rattle.sheet.specs.Words.{count}
use Rattle.sheet.specs.Read.{graded, grammar}
use Rattle.sheet.specs.Internal.{standing_of}
use Rattle.sheet.proofs.Scan.{left, tally, Counts}
use Rattle.sheet.proofs.grammar.Given as goal

abbrev pub invariant-loop-at : goal.invariant-loop-at
invariant-loop-at l = (l.at ≤ count l.src) × (Counts (standing_of l.s) l.count × (graded (tally l.count (left l.src (standing_of l.s) l.at)) ≡ grammar l.src))

abbrev pub decreases-loop-at : goal.decreases-loop-at
decreases-loop-at l = count l.src - l.at
