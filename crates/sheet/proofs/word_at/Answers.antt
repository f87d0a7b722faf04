-- `sheet::word_at` meets its contract. Assumes nothing.
use mathlib.Core.Path.{◌≡◌, ◌∙◌}
use mathlib.Core.List.{List}
use Prim.Native.Nat.{ℕ, ◌+◌, ◌*◌, ◌≤◌, ◌<◌}
use borrow.Author.Tests.{lt-ltb, le-ltb}
use lib.ListN.{get_or}
use Rattle.sheet.specs.Words.{count, big_endian, word}
use Rattle.sheet.proofs.word_at.Goals as goal

inside : (src : List ℕ) (i : ℕ) → i < count src → big_endian (get_or src (4 * i) 0) (get_or src (4 * i + 1) 0) (get_or src (4 * i + 2) 0) (get_or src (4 * i + 3) 0) ≡ word src i
unfolding word
inside src i h = simp (lt-ltb i (count src) h)

outside : (src : List ℕ) (i : ℕ) → count src ≤ i → 0 ≡ word src i
unfolding word
outside src i h = simp (le-ltb i (count src) h)

pub returns-then-at-src : goal.returns-then-at-src
returns-then-at-src c = c.big_endian.ensures ∙ inside _ _ c.if-at-src.true

pub returns-else-at-src : goal.returns-else-at-src
returns-else-at-src c = outside _ _ c.if-at-src.false
