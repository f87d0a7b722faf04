-- `sheet::kind_at` meets its contract. Assumes nothing.
use mathlib.Core.Path.{◌≡◌, ◌∙◌}
use mathlib.Core.List.{List}
use Prim.Native.Nat.{ℕ, ◌+◌, ◌*◌, ◌/◌, ◌^◌, ◌≤◌, ◌<◌}
use native.Mathlib.Omega.{arith}
use mir.Syntax.{w8}
use mir.Val.{Fits}
use borrow.Author.Tests.{lt-ltb, le-ltb}
use lib.ListN.{get_or}
use Rattle.sheet.specs.Words.{count, big_endian, word, kind}
use Rattle.sheet.proofs.kind_at.Goals as goal

top : (a b c d : ℕ) → b < 256 → c < 256 → d < 256 → a / 16 ≡ big_endian a b c d / 2 ^ 28
top a b c d hb hc hd = omega arith

inside : (src : List ℕ) (i : ℕ) → ((j : ℕ) → Fits w8 (get_or src j 0)) → i < count src → get_or src (4 * i) 0 / 16 ≡ kind (word src i)
unfolding word
inside src i known h = rw (lt-ltb i (count src) h) (top (get_or src (4 * i) 0) _ _ _ (known (4 * i + 1)).fits (known (4 * i + 2)).fits (known (4 * i + 3)).fits)

outside : (src : List ℕ) (i : ℕ) → count src ≤ i → 0 ≡ kind (word src i)
unfolding word
outside src i h = simp (le-ltb i (count src) h)

pub returns-then-at-src : goal.returns-then-at-src
returns-then-at-src c = c.high_half.ensures ∙ inside _ _ c.type_inv.src c.if-at-src.true

pub returns-else-at-src : goal.returns-else-at-src
returns-else-at-src c = outside _ _ c.if-at-src.false
