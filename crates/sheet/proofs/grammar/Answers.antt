-- `sheet::grammar` meets its contract. The loop's invariant: what is left from this place on, with the SURFACEs so far, tallies to the whole sheet's count.
-- The measure is what is left of the words. Assumes nothing.
use mathlib.Core.Path.{◌≡◌, refl, sym, ap, ◌∙◌}
use mathlib.Core.Bool.{Bool, false, not}
use mathlib.Core.List.{List}
use Prim.Native.Nat.{ℕ, ◌<◌}
use native.Mathlib.Omega.{arith}
use borrow.Author.Tests.{not-false}
use Rattle.sheet.specs.Words.{word, count, kind}
use Rattle.sheet.specs.Read.{Standing, may, after}
use Rattle.sheet.specs.Internal.{standing_of, counted, place_after, next_place}
use Rattle.sheet.proofs.Standings.{after_kind}
use Rattle.sheet.proofs.Scan.{whole, stop_kind, stop_raw, go_on, end_whole, end_missing, Counts, counts_on}
use Rattle.sheet.proofs.Whole.{enough, inside, counts_still, tallies_still, layers, cauchies}
use Rattle.sheet.proofs.grammar.Goals as goal

counts_again : (s t : Standing) (w n n' : ℕ) (r : Bool) → Counts s n → r ≡ may s w → not r ≡ false → t ≡ after s w → n' ≡ counted w n → Counts t n'
counts_again s t w n n' r c m e q k = rw (q, k) (counts_on w n s c (sym m ∙ not-false r e))

there : (src : List ℕ) (at w : ℕ) → at < count src → w ≡ word src at → (q : ℕ) → q ≡ place_after at (kind w) → q ≡ next_place src at
there src at w lt is q h = after_kind src at (kind w) lt (ap kind is) q h

pub loop-at-init : goal.loop-at-init
loop-at-init c = (omega arith, (refl, whole _))

pub returns-then-not-may : goal.returns-then-not-may
returns-then-not-may c = stop_kind _ _ _ _ _ c.loop-at.invariant.1.1 _ c.loop-at-test.true c.word_from-w.ensures _ c.may.ensures (ap not c.if-not-may.true)

pub returns-then-total-next : goal.returns-then-total-next
returns-then-total-next c = stop_raw _ _ _ _ _ c.loop-at.invariant.1.1 _ c.loop-at-test.true c.word_from-w.ensures _ c.may.ensures (ap not c.if-not-may.false) _ (there _ _ _ c.loop-at-test.true c.word_from-w.ensures _ c.place_after-next.ensures) c.if-total-next.true

pub fewer-u-requires : goal.fewer-u-requires
fewer-u-requires c = enough _ _ _ layers _ _ c.if-total-next.false (standing_of c.after-t.result) _ c.most_of.ensures _ c.run_of-n.ensures

pub run_of-m-requires : goal.run_of-m-requires
run_of-m-requires c = (omega arith, inside _ _ _ layers _ _ c.if-total-next.false (standing_of c.after-t.result) _ c.most_of.ensures _ c.run_of-n.ensures)

pub fewer-s-requires : goal.fewer-s-requires
fewer-s-requires c = enough _ _ _ cauchies _ _ (inside _ _ _ layers _ _ c.if-total-next.false (standing_of c.after-t.result) _ c.most_of.ensures _ c.run_of-n.ensures) (standing_of c.fewer-u.result) _ c.most_cauchy.ensures _ c.run_of-m.ensures

pub loop-at-preserved : goal.loop-at-preserved
loop-at-preserved c = (
  inside _ _ _ cauchies _ _ (inside _ _ _ layers _ _ c.if-total-next.false (standing_of c.after-t.result) _ c.most_of.ensures _ c.run_of-n.ensures) (standing_of c.fewer-u.result) _ c.most_cauchy.ensures _ c.run_of-m.ensures,
  (
    counts_still _ _ _ cauchies _ _ (inside _ _ _ layers _ _ c.if-total-next.false (standing_of c.after-t.result) _ c.most_of.ensures _ c.run_of-n.ensures) (standing_of c.fewer-u.result) _ c.most_cauchy.ensures _ c.run_of-m.ensures _ c.fewer-s.ensures _
        (counts_still _ _ _ layers _ _ c.if-total-next.false (standing_of c.after-t.result) _ c.most_of.ensures _ c.run_of-n.ensures _ c.fewer-u.ensures _
        (counts_again (standing_of c.loop-at.s) _ _ _ _ _ c.loop-at.invariant.1.0 c.may.ensures (ap not c.if-not-may.false) c.after-t.ensures c.counted-count.ensures)),
    tallies_still _ _ _ cauchies _ _ (inside _ _ _ layers _ _ c.if-total-next.false (standing_of c.after-t.result) _ c.most_of.ensures _ c.run_of-n.ensures) (standing_of c.fewer-u.result) _ c.most_cauchy.ensures _ c.run_of-m.ensures _ c.fewer-s.ensures _ _
        (tallies_still _ _ _ layers _ _ c.if-total-next.false (standing_of c.after-t.result) _ c.most_of.ensures _ c.run_of-n.ensures _ c.fewer-u.ensures _ _
        (go_on _ _ _ _ _ c.loop-at.invariant.1.1 _ c.loop-at-test.true c.word_from-w.ensures _ c.may.ensures (ap not c.if-not-may.false) _ (there _ _ _ c.loop-at-test.true c.word_from-w.ensures _ c.place_after-next.ensures) c.if-total-next.false _ c.after-t.ensures _ c.counted-count.ensures)),
  ),
)

pub returns-then-has_ended : goal.returns-then-has_ended
returns-then-has_ended c = end_whole _ _ _ _ _ c.loop-at.invariant.1.1 c.loop-at-test.false _ c.has_ended.ensures c.if-has_ended.true

pub returns-else-has_ended : goal.returns-else-has_ended
returns-else-has_ended c = end_missing _ _ _ _ _ c.loop-at.invariant.1.1 c.loop-at-test.false _ c.has_ended.ensures c.if-has_ended.false
