-- `train_text::reflects` meets its contract. Assumes nothing.
use mathlib.Core.Path.{sym, ap, ◌∙◌}
use Rattle.train_text.specs.Page.{reflects}
use Rattle.train_text.proofs.reflects.Goals as goal
use Rattle.refusal.specs.Outcome.{outcome}

pub returns-in-Ok : goal.returns-in-Ok
returns-in-Ok c = ap reflects (sym (ap outcome c.in-Ok.is) ∙ c.nth_surface.ensures)

pub returns-in-Err : goal.returns-in-Err
returns-in-Err c = ap reflects (sym (ap outcome c.in-Err.is) ∙ c.nth_surface.ensures)
