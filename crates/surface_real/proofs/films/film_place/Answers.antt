-- `surface_real::films::film_place` meets its contract. Assumes nothing.
use mathlib.Core.Path.{◌≡◌, refl}
use mathlib.Core.Bool.{Bool, true, false, not, cond}
use Prim.Native.Nat.{ℕ, ◌%◌, ◌≤◌, ◌<◌}
use native.Mathlib.Omega.{arith}
use lib.Dec.{T, ltb, ltb→lt, nltb→le}
use Rattle.surface_real.specs.InternalFilms.{film_place}
use Rattle.surface_real.proofs.films.film_place.Goals as goal

below : (j films : ℕ) → j < films → j ≡ film_place j films
below j films h = go (ltb j films) (nltb→le j films)
  where
    go : (b : Bool) → (T (not b) → films ≤ j) → j ≡ cond b j (j % 2)
    go true g = refl
    go false g = let k = g tt in absurd (omega (arith, h, k))

past : (j films : ℕ) → films ≤ j → j % 2 ≡ film_place j films
past j films h = go (ltb j films) (ltb→lt j films)
  where
    go : (b : Bool) → (T b → j < films) → j % 2 ≡ cond b j (j % 2)
    go true g = let k = g tt in absurd (omega (arith, h, k))
    go false g = refl

pub returns-then-j-films : goal.returns-then-j-films
returns-then-j-films c = below _ _ c.if-j-films.true

pub returns-else-j-films : goal.returns-else-j-films
returns-else-j-films c = past _ _ c.if-j-films.false
