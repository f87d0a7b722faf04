-- `train_text::hex` meets its contract. Assumes nothing.
use mathlib.Core.Path.{◌≡◌}
use mathlib.Core.List.{List, ◌++◌}
use Prim.Native.Nat.{ℕ, ◌≤◌}
use lib.ListN.{length, drop}
use Rattle.train_text.specs.Text.{hex}
use Rattle.train_text.proofs.hex.Given as goal

-- the digits before place i are those of what is left, and the others stand
pub record Left (w rest : ℕ) (text : List ℕ) (i : ℕ) : Type 0 where
  pub most : i ≤ 16
  pub long : length text ≡ 16
  pub digits : hex 16 w ≡ hex i rest ++ drop i text

abbrev pub invariant-loop-i : goal.invariant-loop-i
invariant-loop-i l = Left l.w l.rest l.text l.i
