-- `dihkelu::dihkelu_step` meets its contract. Assumes nothing.
use mathlib.Core.Path.{sym, ap, ◌∙◌}
use mathlib.Core.List.{List}
use Prim.Native.Nat.{ℕ}
use borrow.Author.Rules.{rules}
use Rattle.sheet.proofs.Stands.{Known, bytes_from}
use Rattle.train_steps.specs.declared.State.{State}
use Rattle.train_steps.specs.Train.{step}
use Rattle.c_call.specs.Call.{Apart}
use Rattle.c_call.proofs.Returned.{sound_apart}
use Rattle.dihkelu.proofs.Moved.{refuses, answers}
use Rattle.dihkelu.proofs.Numbers.{step_sound}
use Rattle.dihkelu.proofs.dihkelu_step.Goals as goal
use Rattle.refusal.specs.Outcome.{outcome}

apart : (src : List ℕ) → Known src → (st : State) → Apart (step src st)
apart src known st = sound_apart (step src st) (step_sound src (bytes_from src known) st)

pub returns-in-Ok : goal.returns-in-Ok
returns-in-Ok c = answers _ _ _ _ _ (sym (ap outcome c.in-Ok.is) ∙ c.step.ensures)

pub returns-in-Err : goal.returns-in-Err
returns-in-Err c = refuses _ _ _ _ _ _ (sym (ap outcome c.in-Err.is) ∙ c.step.ensures) (apart _ c.type_inv.sheet _) c.packed.ensures
