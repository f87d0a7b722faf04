-- `train_text::lines` meets its contract. Assumes nothing.
use mathlib.Core.Path.{◌≡◌}
use Prim.Native.Nat.{◌*◌, ◌≤◌}
use lib.ListN.{length}
use Rattle.sheet.specs.Sheet.{Sheet}
use Rattle.train_text.specs.Page.{RunOf}
use Rattle.train_text.proofs.Runs.{Part}
use Rattle.train_text.proofs.lines.Given as goal

abbrev pub invariant-loop-i : goal.invariant-loop-i
invariant-loop-i l =
    (l.at ≤ 57 * l.i) × ((length l.page ≡ length l.initial.page) × ((x : Sheet) (run : RunOf l.src x l.first_s l.first_p l.count l.list) → Part x l.list run.rest l.initial.page l.page l.s l.p l.at l.i))
