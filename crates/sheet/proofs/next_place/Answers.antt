-- `sheet::next_place` meets its contract. Assumes nothing.
use mathlib.Core.Path.{◌≡◌}
use mathlib.Core.List.{List}
use Prim.Native.Nat.{ℕ, ◌≤◌}
use borrow.Author.Tests.{le-ltb}
use Rattle.sheet.specs.Words.{count}
use Rattle.sheet.specs.Internal.{next_place}
use Rattle.sheet.proofs.Standings.{after_kind}
use Rattle.sheet.proofs.next_place.Goals as goal

past : (src : List ℕ) (at : ℕ) → count src ≤ at → at ≡ next_place src at
unfolding next_place
past src at le = rw (le-ltb at (count src) le)

pub returns-then-at-src : goal.returns-then-at-src
returns-then-at-src c = past _ _ c.if-at-src.true

pub returns : goal.returns
returns c = after_kind _ _ _ c.if-at-src.false c.kind_at.ensures _ c.place_after.ensures
