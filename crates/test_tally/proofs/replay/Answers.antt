-- `test_tally::replay` meets its contract. Assumes nothing.
use Rattle.std.proofs.Common.{ap, ap₂, ◌∙◌, ℕ, suc, ◌≤◌, ◌<◌, ◌+◌, ◌^◌, List, [], ◌∷◌}
use native.Mathlib.Omega.{arith}
use Rattle.test_records.specs.Words.{results, recorded}
use Rattle.test_tally.specs.Counts.{tallied, after}
use Rattle.test_tally.proofs.replay.Goals as goal

few : (n done : ℕ) → n ≤ done → done ≤ 0xffff_ffff → n < 2 ^ 32
few n done e f = omega arith

more : (n done : ℕ) → n ≤ done → suc n ≤ done + 1
more n done e = omega arith

pub loop-done-init : goal.loop-done-init
unfolding after
loop-done-init g c = ([], omega arith, ap₂ (λ (a b : List ℕ). (a, b)) c.new-tally.ensures.none c.new-tally.ensures.none_agreed)

-- one record more
pub loop-done-preserved : goal.loop-done-preserved
unfolding after
loop-done-preserved g c =
    let agrees = recorded c.answer-n.new.out c.answer-n.result (results c.in-Some.h c.next_record.new.body) in (
      (c.in-Some.h.function, agrees) ∷ c.loop-done.invariant.0,
      more _ _ c.loop-done.invariant.1,
      c.add.ensures ∙ ap (λ (t : List ℕ × List ℕ). tallied c.in-Some.h.function agrees t.0 t.1) c.loop-done.invariant.2,
    )

pub returns-after-loop-done-clause-counted : goal.returns-after-loop-done-clause-counted
returns-after-loop-done-clause-counted g c = record {
  records = c.loop-done.invariant.0;
  few = few _ _ c.loop-done.invariant.1 c.loop-done.auto._done-end;
  counts = c.loop-done.invariant.2;
}

pub returns-in_default-clause-counted : goal.returns-in_default-clause-counted
returns-in_default-clause-counted g c = record {
  records = c.loop-done.invariant.0;
  few = few _ _ c.loop-done.invariant.1 c.loop-done.auto._done-end;
  counts = c.loop-done.invariant.2;
}
