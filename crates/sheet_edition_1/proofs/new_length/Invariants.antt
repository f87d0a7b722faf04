-- `sheet_edition_1::new_length` meets its contract. The loop's invariant: so many words come of the blocks so far. Assumes nothing.
use mathlib.Core.Path.{◌≡◌}
use mathlib.Core.List.{List}
use Prim.Native.Nat.{ℕ, ◌+◌, ◌-◌, ◌≤◌}
use Rattle.refusal.specs.Outcome.{answer}
use Rattle.sheet.specs.Words.{count}
use Rattle.sheet.specs.Sheet.{Sheet}
use Rattle.gate.specs.Gate.{gated}
use Rattle.sheet_edition_1.proofs.Walk.{Half}
use Rattle.sheet_edition_1.proofs.new_length.Given as goal

-- no more words than there were, and as many as come of the blocks so far
pub record Before (src : List ℕ) (at n : ℕ) : Type 0 where
  pub fewer : n ≤ at
  pub near : at ≤ count src + 8
  pub half : (x : Sheet) → gated src ≡ answer x → Half src x at n

abbrev pub invariant-loop-at : goal.invariant-loop-at
invariant-loop-at l = Before l.src l.at l.n

abbrev pub decreases-loop-at : goal.decreases-loop-at
decreases-loop-at l = count l.src - l.at
