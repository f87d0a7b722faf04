-- `thin_film_reader::read` meets its contract. Assumes nothing.
use mathlib.Core.Path.{◌≡◌, sym, ap, ◌∙◌}
use lib.ListN.{length}
use native.Mathlib.Omega.{arith}
use Rattle.refusal.specs.Outcome as Outcome
use Rattle.thin_film_reader.specs.Read.{placed}
use Rattle.thin_film_reader.proofs.Reached as Reached
use Rattle.thin_film_reader.proofs.Reached.{Reached}
use Rattle.thin_film_reader.proofs.read.Goals as goal

pub returns-then-text-gt255 : goal.returns-then-text-gt255
returns-then-text-gt255 c = ap (Outcome.map placed) (Reached.too_long _ c.if-text-gt255.true)

pub loop-i-init : goal.loop-i-init
loop-i-init c = (c.if-text-gt255.false, Reached.begun _ _ _ c.begin-m.ensures c.no_films-f.ensures)

pub step-next-requires : goal.step-next-requires
step-next-requires c = c.loop-i.invariant.1.low

pub returns-then-halted : goal.returns-then-halted
returns-then-halted c = ap (Outcome.map placed) (Reached.stops _ _ _ _ c.loop-i.invariant.1 c.loop-i-test.true _ c.step-next.ensures (sym c.halted.ensures ∙ c.if-halted.true) ∙ sym (Reached.not_long _ c.loop-i.invariant.0))

pub take-f-requires : goal.take-f-requires
take-f-requires c = (c.loop-i.invariant.1.safe, Reached.going_on _ _ _ _ c.loop-i.invariant.1 c.loop-i-test.true _ c.step-next.ensures (sym c.halted.ensures ∙ c.if-halted.false))

pub loop-i-preserved : goal.loop-i-preserved
loop-i-preserved c = (c.loop-i.invariant.0, Reached.next _ _ _ _ c.loop-i.invariant.1 c.loop-i-test.true _ c.step-next.ensures _ (sym c.halted.ensures ∙ c.if-halted.false) c.take-f.ensures)

pub returns-then-not-whole : goal.returns-then-not-whole
returns-then-not-whole c =
    let e : length c.args.text.now ≡ c.loop-i.i = omega (arith, c.loop-i.invariant.1.within) in
    rw e (ap (Outcome.map placed) (Reached.early _ _ _ _ c.loop-i.invariant.1 c.loop-i-test.false (sym c.whole.ensures ∙ c.if-not-whole.true) ∙ sym (Reached.not_long _ c.loop-i.invariant.0)))

pub returns : goal.returns
returns c = c.counted.ensures ∙ Reached.counts _ _ _ _ c.loop-i.invariant.1 c.loop-i-test.false (sym c.whole.ensures ∙ c.if-not-whole.false) ∙ ap (Outcome.map placed) (sym (Reached.not_long _ c.loop-i.invariant.0))
