-- `c_scan::first_refused` meets its contract. Assumes nothing.
use mathlib.Core.Path.{sym, ap, ◌∙◌}
use Rattle.refusal.specs.Outcome.{outcome}
use Rattle.c_scan.specs.Internal.{refusal_of_all}
use Rattle.c_scan.proofs.Cases.{is_ok, start, further, stops, end, was_answered, was_refused}
use Rattle.c_scan.proofs.first_refused.Goals as goal

pub loop-i-init : goal.loop-i-init
loop-i-init c = (_, start _ _ _)

pub returns-in-Err : goal.returns-in-Err
returns-in-Err c =
    let w = was_refused _ _ (sym (ap outcome c.in-Err.is) ∙ c.check.ensures) in
    sym (ap refusal_of_all (stops _ _ _ c.requires _ c.loop-i-test.true _ _ _ _ c.loop-i.invariant.1 w.1))

pub loop-i-preserved : goal.loop-i-preserved
loop-i-preserved c =
    let w = was_answered _ (sym (ap outcome (is_ok _ c.in_default.not-Err)) ∙ c.check.ensures) in
    (_, further _ _ _ c.requires _ c.loop-i-test.true _ _ _ c.loop-i.invariant.1 w.1)

pub returns : goal.returns
returns c = sym (ap refusal_of_all (end _ _ _ _ _ c.loop-i-test.false c.loop-i.invariant.1))
