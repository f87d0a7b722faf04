-- `dihkelu::dihkelu_start` meets its contract. Assumes nothing.
use mathlib.Core.Path.{sym, ap, ◌∙◌}
use mathlib.Core.List.{List}
use Prim.Native.Nat.{ℕ}
use borrow.Author.Rules.{rules}
use Rattle.sheet.proofs.Stands.{Known, bytes_from}
use Rattle.gate.specs.Gate as Gate
use Rattle.gate.specs.Gate.{gated}
use Rattle.gate.proofs.Admitted.{turned_back}
use Rattle.c_call.specs.Call.{Apart}
use Rattle.dihkelu.proofs.Places.{gate_apart}
use Rattle.dihkelu.proofs.Moved.{refuses, begins}
use Rattle.dihkelu.proofs.dihkelu_start.Goals as goal
use Rattle.refusal.specs.Outcome.{outcome}

apart : (src : List ℕ) → Known src → Apart (gated src)
apart src known = gate_apart src (bytes_from src known)

pub returns-in-Ok : goal.returns-in-Ok
returns-in-Ok c = begins _ _ _ _ c.type_inv.sheet (sym (ap outcome c.in-Ok.is) ∙ c.gate.ensures) c.beam_of-beam.ensures

pub returns-in-Err : goal.returns-in-Err
returns-in-Err c = refuses _ _ _ _ _ _ (sym (turned_back _ _ _ (sym (ap outcome c.in-Err.is) ∙ c.gate.ensures))) (apart _ c.type_inv.sheet) c.packed.ensures
