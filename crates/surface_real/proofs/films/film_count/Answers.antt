-- `surface_real::films::film_count` meets its contract. Assumes nothing.
use mathlib.Core.Path.{◌≡◌, refl, sym, ap, ◌∙◌, subst}
use mathlib.Core.Bool.{Bool, true, false, not, cond}
use Prim.Native.Nat.{ℕ, zero, suc, ◌+◌, ◌%◌, ◌≤◌, ◌<◌}
use native.Mathlib.Omega.{arith}
use lib.Dec.{T, ltb, ltb→lt, nltb→le}
use borrow.Author.Rules.{rules}
use Rattle.ieee.proofs.Signs.{of_true}
use Rattle.surface_real.specs.declared.Film.{Film}
use Rattle.surface_real.specs.InternalFilms.{film_at, film_place}
use Rattle.surface_real.proofs.films.film_count.Goals as goal

module _ (film : ℕ → Film) where
  abbrev Own : ℕ → ℕ → Type 0
  Own films j = (film_place j films < films) × (film (film_place j films) ≡ film j)

  -- each layer has a film of its own
  each : (count j : ℕ) → j < count → Own count j
  each count j h = go (ltb j count) (nltb→le j count)
    where
      go : (b : Bool) → (T (not b) → count ≤ j) → (cond b j (j % 2) < count) × (film (cond b j (j % 2)) ≡ film j)
      go true g = (h, refl)
      go false g = let l = g tt in absurd (omega (arith, h, l))

  -- two films, in turns
  module _ (count : ℕ) (turns : (i : ℕ) → i + 2 < count → film (i + 2) ≡ film i) where
    back : (m j : ℕ) → j ≤ m → j < count → film (j % 2) ≡ film j
    back m zero g h = refl
    back m (suc zero) g h = refl
    back zero (suc (suc j)) g h = absurd (omega (arith, g))
    back (suc m) (suc (suc j)) g h =
        let e : suc (suc j) % 2 ≡ j % 2 = omega arith in
        let f : j + 2 ≡ suc (suc j) = omega arith in
        ap film e ∙ back m j (omega (arith, g)) (omega (arith, h)) ∙ subst (λ (z : ℕ). film j ≡ film z) f (sym (turns j (omega (arith, h))))

    two : (j : ℕ) → j < count → Own 2 j
    two j h = go (ltb j 2) (ltb→lt j 2)
      where
        go : (b : Bool) → (T b → j < 2) → (cond b j (j % 2) < 2) × (film (cond b j (j % 2)) ≡ film j)
        go true g = (g tt, refl)
        go false g = (omega arith, back j j (omega arith) h)

pub returns-then-take_turns : goal.returns-then-take_turns
returns-then-take_turns c =
    let a = c.args in
    (omega arith, λ j h. two (film_at a.eta_s.now a.eta_p.now a.delta.now) a.count (c.take_turns.ensures (of_true _ c.if-take_turns.true)) j h)

pub returns-else-take_turns : goal.returns-else-take_turns
returns-else-take_turns c =
    let a = c.args in
    (omega arith, λ j h. each (film_at a.eta_s.now a.eta_p.now a.delta.now) a.count j h)

pub returns-else-count-gt2 : goal.returns-else-count-gt2
returns-else-count-gt2 c =
    let a = c.args in
    (omega arith, λ j h. each (film_at a.eta_s.now a.eta_p.now a.delta.now) a.count j h)
