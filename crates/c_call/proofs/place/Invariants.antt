-- `c_call::place` meets its contract. Assumes nothing.
use mathlib.Core.Path.{◌≡◌}
use mathlib.Core.List.{List}
use Prim.Native.Nat.{ℕ, ◌≤◌}
use lib.ListN.{length}
use lib.Seq.{paste}
use lib.Ieee.{Float}
use Rattle.c_call.proofs.place.Given as goal

-- the first i numbers are written
pub record Half (at : ℕ) (numbers list₀ list : List Float) (i : ℕ) : Type 0 where
  pub most : i ≤ length numbers
  pub long : length list ≡ length list₀
  pub front : list ≡ paste list₀ at numbers i

abbrev pub invariant-loop-i : goal.invariant-loop-i
invariant-loop-i l = Half l.at l.numbers l.initial.list l.list l.i
