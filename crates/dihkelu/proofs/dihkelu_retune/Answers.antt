-- `dihkelu::dihkelu_retune` meets its contract. Assumes nothing.
use mathlib.Core.Path.{sym, ap, ◌∙◌}
use mathlib.Core.List.{List}
use Prim.Native.Nat.{ℕ}
use lib.Ieee.{Float}
use borrow.Author.Rules.{rules}
use Rattle.sheet.proofs.Stands.{Known, bytes_from}
use Rattle.train_steps.specs.declared.State.{State}
use Rattle.train_steps.specs.Train.{retune}
use Rattle.c_call.specs.Call.{Apart}
use Rattle.c_call.proofs.Returned.{sound_apart}
use Rattle.dihkelu.proofs.Moved.{refuses, retunes}
use Rattle.dihkelu.proofs.Numbers.{retune_sound}
use Rattle.dihkelu.proofs.dihkelu_retune.Goals as goal
use Rattle.refusal.specs.Outcome.{outcome}

apart : (src : List ℕ) → Known src → (st : State) (w : Float) → Apart (retune src st w)
apart src known st w = sound_apart (retune src st w) (retune_sound src (bytes_from src known) st w)

pub returns-in-Ok : goal.returns-in-Ok
returns-in-Ok c = retunes _ _ _ _ (sym (ap outcome c.in-Ok.is) ∙ c.retune.ensures)

pub returns-in-Err : goal.returns-in-Err
returns-in-Err c = refuses _ _ _ _ _ _ (sym (ap outcome c.in-Err.is) ∙ c.retune.ensures) (apart _ c.type_inv.sheet _ _) c.packed.ensures
