-- How far two whole numbers are apart: by which is the larger. Assumes nothing.
use mathlib.Core.Path.{◌≡◌, subst}
use Prim.Native.Nat.{ℕ, ◌+◌, ◌-◌, ◌*◌, ◌≤◌, ◌<◌}
use native.Mathlib.Nat.{le_of_lt, add_comm, le_dest}
use native.Mathlib.Omega.{arith}
use mathlib.Core.Bool.{Bool, true, false, not}
use lib.Dec.{T, leb, leb→le, nleb→lt}
use Rattle.ieee_near.specs.Index.{gap}

-- what holds of x, x + d and d, and of y + d, y and d, holds of any two and their gap
pub gap_by : (P : ℕ → ℕ → ℕ → Type 0) → ((x d : ℕ) → P x (x + d) d) → ((y d : ℕ) → P (y + d) y d) → (x y : ℕ) → P x y (gap x y)
gap_by P f g x y = go (leb x y) (leb→le x y) (nleb→lt x y)
  where
    less : (x d : ℕ) → d ≡ gap x (x + d)
    less x d = omega arith

    more : (y d : ℕ) → d ≡ gap (y + d) y
    more y d = omega arith

    go : (b : Bool) → (T b → x ≤ y) → (T (not b) → y < x) → P x y (gap x y)
    go true h k = let d = le_dest (h tt) in subst (λ (z : ℕ). P x z (gap x z)) d.1 (subst (P x (x + d.0)) (less x d.0) (f x d.0))
    go false h k = let d = le_dest (le_of_lt (k tt)) in subst (λ (z : ℕ). P z y (gap z y)) d.1 (subst (P (y + d.0) y) (more y d.0) (g y d.0))

pub gap_comm : (x y : ℕ) → gap x y ≡ gap y x
gap_comm x y = add_comm (x - y) (y - x)

-- within j parts in k + j of y, from above and from below
pub gap_part : (k j x y : ℕ) → (k + j) * x ≤ (k + j + j) * y → k * y ≤ (k + j) * x → gap x y * (k + j) ≤ j * y
gap_part k j x y = gap_by (λ (x y g : ℕ). (k + j) * x ≤ (k + j + j) * y → k * y ≤ (k + j) * x → g * (k + j) ≤ j * y) (below k j) (above k j) x y
  where
    below : (k j x d : ℕ) → (k + j) * x ≤ (k + j + j) * (x + d) → k * (x + d) ≤ (k + j) * x → d * (k + j) ≤ j * (x + d)
    below k j x d h g = omega arith

    above : (k j y d : ℕ) → (k + j) * (y + d) ≤ (k + j + j) * y → k * y ≤ (k + j) * (y + d) → d * (k + j) ≤ j * y
    above k j y d h g = omega arith
