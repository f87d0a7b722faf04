-- `sheet_untuned::first_tuning` meets its contract. The loop's invariant: no kind 7 stands before this place. Assumes nothing.
use mathlib.Core.Path.{◌≡◌, sym, ◌∙◌, subst}
use Prim.Native.Nat.{◌-◌}
use borrow.Author.Rules.{rules}
use Rattle.refusal.specs.Outcome.{answer}
use Rattle.sheet.specs.Words.{count}
use Rattle.sheet.specs.Sheet.{Sheet}
use Rattle.gate.specs.Gate.{gated}
use Rattle.gate.proofs.Admitted.{gives}
use Rattle.sheet_untuned.proofs.Walk.{less_left, Unseen, unseen_first, unseen_on, seen_here, none_seen}
use Rattle.sheet_untuned.proofs.first_tuning.Given as goal

abbrev pub invariant-loop-at : goal.invariant-loop-at
invariant-loop-at l = (x : Sheet) → gated l.src ≡ answer x → Unseen l.src x l.at

abbrev pub decreases-loop-at : goal.decreases-loop-at
decreases-loop-at l = count l.src - l.at
