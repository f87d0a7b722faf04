-- `sheet_edition_1::new_size` meets its contract. Assumes nothing.
use mathlib.Core.Path.{◌≡◌, refl, sym, ap, ◌∙◌}
use mathlib.Core.List.{List}
use Prim.Native.Nat.{ℕ, ◌-◌, ◌≤◌}
use native.Mathlib.Omega.{arith}
use borrow.Author.Tests.{ne_eqb}
use Rattle.sheet.specs.Words.{word, kind}
use Rattle.sheet.specs.Internal.{next_place}
use Rattle.sheet_edition_1.specs.Internal.{new_size}
use Rattle.sheet_edition_1.proofs.NewBlocks.{next_most}
use Rattle.sheet_edition_1.proofs.new_size.Goals as goal

glass : (src : List ℕ) (at k : ℕ) → k ≡ kind (word src at) → k ≡ 6 → 7 ≡ new_size src at
glass src at k e q = let z : kind (word src at) ≡ 6 = sym e ∙ q in rw z refl

other : (src : List ℕ) (at k : ℕ) → k ≡ kind (word src at) → (k ≡ 6 → ⊥) → (n : ℕ) → n ≡ next_place src at → n - at ≡ new_size src at
other src at k e q n p = rw (ne_eqb (kind (word src at)) 6 (λ z. q (e ∙ z))) (ap (λ (m : ℕ). m - at) p)

after : (src : List ℕ) (at n : ℕ) → n ≡ next_place src at → at ≤ n
after src at n e = omega (arith, (next_most src at).0)

pub returns-then-kind_at-eq6 : goal.returns-then-kind_at-eq6
returns-then-kind_at-eq6 c = glass _ _ _ c.kind_at.ensures c.if-kind_at-eq6.true

pub overflow_sub-result : goal.overflow_sub-result
overflow_sub-result c = after _ _ _ c.next_place.ensures

pub returns : goal.returns
returns c = other _ _ _ c.kind_at.ensures c.if-kind_at-eq6.false _ c.next_place.ensures
