-- `sheet_untuned::first_tuning` meets its contract. The loop's invariant: no kind 7 stands before this place. Assumes nothing.
use mathlib.Core.Path.{◌≡◌, sym, ◌∙◌, subst}
use Prim.Native.Nat.{◌-◌}
use borrow.Author.Rules.{rules}
use Rattle.refusal.specs.Outcome.{answer}
use Rattle.sheet.specs.Words.{count}
use Rattle.sheet.specs.Sheet.{Sheet}
use Rattle.gate.specs.Gate.{gated}
use Rattle.gate.proofs.Admitted.{gives}
use Rattle.sheet_untuned.proofs.Walk.{less_left, Unseen, unseen_first, unseen_on, seen_here, none_seen}
use Rattle.sheet_untuned.proofs.first_tuning.Goals as goal

pub loop-at-init : goal.loop-at-init
loop-at-init c = λ x g. unseen_first _ x (gives _ c.type_inv.src x g).0

pub returns-then-kind_at-eq7 : goal.returns-then-kind_at-eq7
returns-then-kind_at-eq7 c = λ x g. seen_here _ x _ (c.loop-at.invariant x g) c.loop-at-test.true (sym c.kind_at.ensures ∙ c.if-kind_at-eq7.true)

pub loop-at-smaller : goal.loop-at-smaller
loop-at-smaller c = less_left _ _ _ c.loop-at-test.true c.next_place-at.ensures

pub loop-at-preserved : goal.loop-at-preserved
loop-at-preserved c = λ x g. subst (Unseen _ x) (sym c.next_place-at.ensures) (unseen_on _ x _ (c.loop-at.invariant x g) c.loop-at-test.true (λ k. c.if-kind_at-eq7.false (c.kind_at.ensures ∙ k)))

pub returns : goal.returns
returns c = λ x g. none_seen _ x _ (c.loop-at.invariant x g) c.loop-at-test.false
