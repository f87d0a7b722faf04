-- `math_waves::in_steps` meets its contract. Assumes nothing.
use mathlib.Core.Path.{◌≡◌, ap, ap₂, ◌∙◌, subst, sym}
use Prim.Native.Nat.{ℕ, ◌≤◌, ◌<◌}
use native.Mathlib.Nat.{lt_of_lt_of_le}
use mathlib.Core.List.{List}
use lib.ListN.{length, replicate, length-replicate, get_or-replicate}
use lib.Ieee.{Float, nan}
use Rattle.ieee.specs.Functions.{one}
use Rattle.math_trig.specs.Internal.{near_line}
use Rattle.math_waves.specs.Waves.{written, each_first}
use Rattle.math_waves.specs.Internal.{at, near_fold, near_square, stepped, first_sin, last_sin, first_cos, last_cos, sin_steps, cos_steps, sin_end, cos_end, quick_sin, quick_cos}
use Rattle.math_waves.proofs.Written.{nth_written, same_written}
use Rattle.math_waves.proofs.Steps.{and_then}
use Rattle.math_waves.proofs.in_steps.Goals as goal

-- the arrays before the first step
abbrev ones : List Float
ones = replicate 16 one

module _ (x : List Float) (n : ℕ) (few : n ≤ 16) where
  wide : n ≤ length ones
  wide = subst (λ (m : ℕ). n ≤ m) (sym (length-replicate 16 one)) few

  -- what stands at a place
  place : (f : Float → Float) (l : List Float) → l ≡ each_first f x n ones → (k : ℕ) → k < n → at l k ≡ f (at x k)
  place f l e k h = ap (λ (m : List Float). at m k) e ∙ nth_written _ n ones k nan h wide

  series_at : (f g : Float → Float → Float) (z s t : List Float) → z ≡ each_first near_square x n ones → s ≡ stepped f z n ones → t ≡ stepped g z n s → (k : ℕ) → k < n
      → at t k ≡ g (near_square (at x k)) (f (near_square (at x k)) one)
  series_at f g z s t ez es et k h =
      ap (λ (m : List Float). at m k) (and_then f g z ones s t n es et)
      ∙ nth_written _ n ones k nan h wide
      ∙ ap₂ (λ (w v : Float). g w (f w v)) (place near_square z ez k h) (get_or-replicate 16 k one nan (lt_of_lt_of_le h few))

  sines : (a z s t l sin : List Float) → a ≡ each_first near_fold x n ones → z ≡ each_first near_square x n ones → s ≡ stepped first_sin z n ones → t ≡ stepped last_sin z n s
      → sin ≡ written (λ k. sin_end (at a k) (at t k)) n l → sin ≡ each_first quick_sin x n l
  unfolding quick_sin sin_steps
  sines a z s t l sin ea ez es et e = e ∙ same_written _ _ n l (λ k h. ap₂ sin_end (place near_fold a ea k h) (series_at first_sin last_sin z s t ez es et k h))

  cosines : (r z c t l cos : List Float) → r ≡ each_first near_line x n ones → z ≡ each_first near_square x n ones → c ≡ stepped first_cos z n ones → t ≡ stepped last_cos z n c
      → cos ≡ written (λ k. cos_end (at r k) (at t k)) n l → cos ≡ each_first quick_cos x n l
  unfolding quick_cos cos_steps
  cosines r z c t l cos er ez es et e = e ∙ same_written _ _ n l (λ k h. ap₂ cos_end (place near_line r er k h) (series_at first_cos last_cos z c t ez es et k h))

pub returns : goal.returns
returns c =
    let a = c.args in
    let f = c.folds-all.ensures in (
      f.0,
      sines a.x.now a.n c.requires _ _ _ _ _ _ f.2 f.3 c.first_steps.ensures.0 c.last_steps.ensures.0 c.ends.ensures.0,
      cosines a.x.now a.n c.requires _ _ _ _ _ _ f.1 f.3 c.first_steps.ensures.1 c.last_steps.ensures.1 c.ends.ensures.1,
    )
