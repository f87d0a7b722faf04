-- `sheet::onto` meets its contract. Assumes nothing.
use mathlib.Core.Path.{◌≡◌}
use mathlib.Core.List.{List}
use Prim.Native.Nat.{ℕ}
use borrow.Author.Tests.{eq-eqb, ne_eqb}
use Rattle.sheet.specs.Words.{word, kind}
use Rattle.sheet.specs.Internal.{next_place, onto}
use Rattle.sheet.proofs.onto.Goals as goal

module _ (src : List ℕ) (at k : ℕ) (e : k ≡ kind (word src at)) where
  after_seven : k ≡ 7 → (q : ℕ) → q ≡ next_place src at → q ≡ onto src at
  unfolding onto
  after_seven s q h = rw (← e, eq-eqb k 7 s) h

  here : (k ≡ 7 → ⊥) → at ≡ onto src at
  unfolding onto
  here n = rw (← e, ne_eqb k 7 n)

pub returns-then-kind_at-eq7 : goal.returns-then-kind_at-eq7
returns-then-kind_at-eq7 c = after_seven _ _ _ c.kind_at.ensures c.if-kind_at-eq7.true _ c.next_place.ensures

pub returns : goal.returns
returns c = here _ _ _ c.kind_at.ensures c.if-kind_at-eq7.false
