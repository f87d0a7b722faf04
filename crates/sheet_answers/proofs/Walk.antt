-- The layers after a block, read in one walk. Assumes nothing.
use mathlib.Core.Path.{◌≡◌, refl, sym, ap, ◌∙◌}
use mathlib.Core.List.{List}
use Prim.Native.Nat.{ℕ, zero, suc, ◌+◌}
use native.Mathlib.Numerals.{add-one}
use Rattle.sheet.specs.Internal.{next_place, place_on}

module _ (src : List ℕ) where
  -- where the walk begins
  pub first : (at p : ℕ) → p ≡ at → p ≡ place_on src at 0
  unfolding place_on
  first at p e = e

  -- the place after i blocks and one more
  next_on : (at i : ℕ) → next_place src (place_on src at i) ≡ place_on src at (suc i)
  unfolding place_on
  next_on at zero = refl
  next_on at (suc i) = next_on (next_place src at) i

  pub further : (at i p q : ℕ) → p ≡ place_on src at i → q ≡ next_place src p → q ≡ place_on src at (i + 1)
  further at i p q e f = f ∙ ap (next_place src) e ∙ next_on at i ∙ ap (place_on src at) (sym (add-one i))
