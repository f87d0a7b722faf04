-- The films whose numbers stand in arrays are those of their media. Assumes nothing.
use mathlib.Core.Path.{◌≡◌, refl, ap, ◌∙◌}
use Prim.Native.Nat.{ℕ, ◌≤◌, ◌<◌}
use native.Mathlib.Omega.{arith}
use mathlib.Core.List.{List}
use lib.ListN.{length}
use lib.Ieee.{Float, nan}
use Rattle.math_trig.specs.Trig as Trig
use Rattle.math_waves.specs.Waves.{written, at_most_16, each}
use Rattle.math_waves.proofs.Written.{nth_written}
use Rattle.surface_real.specs.Internal.{over, film_in}
use Rattle.surface_real.specs.InternalFilms.{at, film_at, film_here}

-- a list with so many places
module _ (base : List Float) (long : length base ≡ 16) where
  place : (f : ℕ → Float) (films : ℕ) (l : List Float) (j : ℕ) → films ≤ 16 → j < films → l ≡ written f films base → at l j ≡ f j
  place f films l j few h is = ap (λ (m : List Float). at m j) is ∙ nth_written f films base j nan h (omega (arith, long, few))

  wave : (f : Float → Float) (x : List Float) (films : ℕ) (l : List Float) (j : ℕ) → films ≤ 16 → j < films → l ≡ each f x films base → at l j ≡ f (at x j)
  wave f x films l j few h is = place (λ k. f (at x k)) (at_most_16 films) l j (omega (arith, few)) (omega (arith, few, h)) is

  pub own_film : (films angles : ℕ) → films ≤ angles → angles ≤ 16 → (es ep δ s t ys yp : List Float) → s ≡ each Trig.sin δ angles base → t ≡ each Trig.cos δ angles base
      → ys ≡ written (λ i. over (at s i) (at es i)) films base → yp ≡ written (λ i. over (at s i) (at ep i)) films base
      → (j : ℕ) → j < films → film_here s t es ep ys yp j ≡ film_at es ep δ j
  unfolding film_here film_at film_in
  own_film films angles enough most es ep δ s t ys yp s_is t_is ys-is yp-is j low =
      let few : films ≤ 16 = omega (arith, enough, most) in
      let below : j < angles = omega (arith, low, enough) in
      let over-s = place _ films ys j few low ys-is in
      let over-p = place _ films yp j few low yp-is in
      let sine = wave Trig.sin δ angles s j most below s_is in
      let cosine = wave Trig.cos δ angles t j most below t_is in
      rw (over-s, over-p, sine, cosine) refl
