-- `sheet::floats_at` meets its contract. Assumes nothing.
use mathlib.Core.Path.{◌≡◌}
use mathlib.Core.List.{List}
use Prim.Native.Nat.{ℕ, ◌+◌, ◌≤◌}
use native.Mathlib.Omega.{arith}
use borrow.Author.Tests.{le-ltb}
use lib.Ieee.{binary64, of_bits}
use Rattle.sheet.specs.Words.{word, count, float}
use Rattle.sheet.specs.Internal.{floats_at}
use Rattle.sheet.proofs.floats_at.Goals as goal

past : (src : List ℕ) (at : ℕ) → count src ≤ at → record { first = of_bits binary64 0; second = of_bits binary64 0; third = of_bits binary64 0 } ≡ floats_at src at
past src at h = λ i. record { first = of_bits binary64 (none 1 i); second = of_bits binary64 (none 3 i); third = of_bits binary64 (none 5 i) }
  where
    nil : (i : ℕ) → 0 ≡ word src (at + i)
    nil i = unfold word in simp (le-ltb (at + i) (count src) (omega arith))

    none : (i : ℕ) → 0 ≡ float src (at + i)
    none i = unfold float word in simp (le-ltb (at + i) (count src) (omega arith), le-ltb (at + i + 1) (count src) (omega arith))

pub returns : goal.returns
returns c = past _ _ c.if-at-total.false
