-- `dihkelu::put_surface` meets its contract. Assumes nothing.
use mathlib.Core.Path.{sym, ap}
use Rattle.refusal.specs.Outcome.{outcome}
use Rattle.c_call.specs.Layout.{surface_answered}
use Rattle.c_call.proofs.Returned.{refuses, answers}
use Rattle.dihkelu.proofs.put_surface.Goals as goal

pub returns-in-Ok : goal.returns-in-Ok
returns-in-Ok c = answers surface_answered _ _ _ _ (ap outcome (sym c.in-Ok.is)) c.put_answers.ensures

pub returns-in-Err : goal.returns-in-Err
returns-in-Err c = refuses surface_answered _ _ _ _ (ap outcome (sym c.in-Err.is)) c.requires c.packed.ensures
