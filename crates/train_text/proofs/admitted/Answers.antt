-- `train_text::admitted` meets its contract. Assumes nothing.
use mathlib.Core.Path.{sym, ap, ◌∙◌}
use Rattle.train_text.proofs.Whole.{restart, not_refused}
use Rattle.train_text.proofs.admitted.Goals as goal
use Rattle.refusal.specs.Outcome.{outcome}

pub returns-in-Ok : goal.returns-in-Ok
returns-in-Ok c = (
  λ x run. c.lines.ensures.0 x (restart _ _ _ _ _ (sym (ap outcome c.in-Ok.is) ∙ c.start.ensures) run),
  c.lines.ensures.1,
)

pub returns-in-Err : goal.returns-in-Err
returns-in-Err c = (λ x run. not_refused _ _ _ _ (sym (ap outcome c.in-Err.is) ∙ c.start.ensures) run.is, c.refused_line.ensures.1)
