-- `sheet::float_from` meets its contract. Assumes nothing.
use mathlib.Core.Path.{◌≡◌}
use mathlib.Core.List.{List}
use Prim.Native.Nat.{ℕ, ◌+◌, ◌≤◌}
use native.Mathlib.Omega.{arith}
use borrow.Author.Tests.{le-ltb}
use lib.Ieee.{Float, binary64, of_bits}
use Rattle.ieee.specs.Functions.{of_words}
use Rattle.sheet.specs.Words.{word, count, float}
use Rattle.sheet.proofs.float_from.Goals as goal

inside : (src : List ℕ) (at h l : ℕ) → h ≡ word src at → l ≡ word src (at + 1) → (r : Float) → r ≡ of_words h l → r ≡ of_bits binary64 (float src at)
unfolding float
inside src at h l p q r e = simp (e, p, q)

past : (src : List ℕ) (at : ℕ) → count src ≤ at → of_bits binary64 0 ≡ of_bits binary64 (float src at)
unfolding float word
past src at h = simp (le-ltb at (count src) h, le-ltb (at + 1) (count src) (more (count src) h))
  where
    more : (n : ℕ) → n ≤ at → n ≤ at + 1
    more n h = omega arith

pub returns-then-at-src : goal.returns-then-at-src
returns-then-at-src c = inside _ _ _ _ c.word_from.ensures c.word_from-then-at-src.ensures _ c.from_words.ensures

pub returns-else-at-src : goal.returns-else-at-src
returns-else-at-src c = past _ _ c.if-at-src.false
