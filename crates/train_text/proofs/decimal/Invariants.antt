-- `train_text::decimal` meets its contract. Assumes nothing.
use mathlib.Core.Path.{◌≡◌}
use mathlib.Core.List.{List, ◌++◌}
use Prim.Native.Nat.{ℕ, ◌+◌, ◌^◌, ◌<◌}
use lib.ListN.{length, drop}
use Rattle.train_text.specs.Text.{digits, decimal}
use Rattle.train_text.proofs.decimal.Given as goal

-- the digits up to place i are those of what is left, and the others stand
pub record Left (n rest : ℕ) (text : List ℕ) (i : ℕ) : Type 0 where
  pub most : i < 20
  pub long : length text ≡ 20
  pub small : rest < 10 ^ (i + 1)
  pub whole : decimal n ≡ digits (i + 1) rest ++ drop (i + 1) text

abbrev pub invariant-loop-rest : goal.invariant-loop-rest
invariant-loop-rest l = Left l.n l.rest l.digits l.i

abbrev pub decreases-loop-rest : goal.decreases-loop-rest
decreases-loop-rest l = l.i
