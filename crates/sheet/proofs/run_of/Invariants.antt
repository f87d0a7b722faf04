-- `sheet::run_of` meets its contract. The loop's invariant: the blocks passed, with those from here on, are all of them. Assumes nothing.
use mathlib.Core.Path.{◌≡◌}
use mathlib.Core.List.{List}
use Prim.Native.Nat.{ℕ, ◌+◌, ◌-◌, ◌≤◌}
use Rattle.sheet.specs.Words.{count}
use Rattle.sheet.specs.Internal.{run_of}
use Rattle.sheet.proofs.run_of.Given as goal

pub record Passed (w size : ℕ) (src : List ℕ) (at most n place : ℕ) : Type 0 where
  pub inside : place ≤ count src
  pub run : n + run_of w size (most - n) src place ≡ run_of w size most src at

abbrev pub invariant-loop-n : goal.invariant-loop-n
invariant-loop-n l = Passed l.w l.size l.src l.at l.most l.n l.place
