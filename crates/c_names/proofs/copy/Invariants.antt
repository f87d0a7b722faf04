-- `c_names::copy` meets its contract. Assumes nothing.
use mathlib.Core.Path.{◌≡◌}
use mathlib.Core.List.{List}
use Prim.Native.Nat.{ℕ, ◌≤◌}
use lib.ListN.{length, take}
use lib.Seq.{paste}
use Rattle.c_names.proofs.copy.Given as goal

-- the first i bytes are written, or all where there are fewer
pub record Half (name output₀ output : List ℕ) (i : ℕ) : Type 0 where
  pub most : i ≤ 16
  pub long : length output ≡ length output₀
  pub front : output ≡ paste output₀ 0 name (length (take i name))

abbrev pub invariant-loop-i : goal.invariant-loop-i
invariant-loop-i l = Half l.name l.initial.output l.output l.i
