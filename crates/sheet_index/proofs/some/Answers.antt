-- `sheet_index::some` meets its contract. Assumes nothing.
use mathlib.Core.Path.{◌≡◌, ap, ◌∙◌}
use mathlib.Core.List.{List}
use Prim.Native.Nat.{ℕ, ◌+◌, ◌-◌, ◌≤◌, ◌<◌}
use native.Mathlib.Omega.{arith}
use lib.ListN.{get_or, replicate, length-replicate}
use lib.Ieee.{Float, nan}
use Rattle.math_trig.specs.Trig.{sin, cos}
use Rattle.math_waves.specs.Waves.{each}
use Rattle.math_waves.proofs.Written.{nth_written}
use Rattle.sheet_index.specs.Index.{filled, angle_of}
use Rattle.sheet_index.specs.Internal.{stored}
use Rattle.sheet_index.proofs.Filled.{nth_filled, same_stored}
use Rattle.sheet_index.proofs.some.Goals as goal

-- f of the angles, worked out together, stored
module _ (src : List ℕ) (i n : ℕ) (le : n ≤ 16) (one : Float) (angles : List Float) (ea : angles ≡ filled (λ k. angle_of src (i + k)) n (replicate 16 one)) (f : Float → Float) (l : List Float) (el : l ≡ each f angles n (replicate 16 one)) where
  nth : (k : ℕ) → k < n → get_or l k nan ≡ f (angle_of src (i + k))
  nth k lt =
      ap (λ (z : List Float). get_or z k nan) el
      ∙ nth_written (λ j. f (get_or angles j nan)) (16 - (16 - n)) (replicate 16 one) k nan (omega (arith, lt, le)) (omega (arith, length-replicate 16 one))
      ∙ ap f (ap (λ (z : List Float). get_or z k nan) ea ∙ nth_filled (λ j. angle_of src (i + j)) n (replicate 16 one) k nan lt (omega (arith, le, length-replicate 16 one)))

  worked_out : (m m₀ : List Float) → m ≡ stored (λ k. get_or l (k - i) nan) i n m₀ → m ≡ stored (λ k. f (angle_of src k)) i n m₀
  worked_out m m₀ e = e ∙ same_stored (λ k. get_or l (k - i) nan) (λ k. f (angle_of src k)) i n m₀ (λ k lt. ap (λ (j : ℕ). get_or l j nan) (back i k) ∙ nth k lt)
    where
      back : (i k : ℕ) → i + k - i ≡ k
      back i k = omega arith

pub returns : goal.returns
returns c =
    let g = c.gather-next.ensures in
    let le = c.requires.0.0 in
    let w = c.sin_cos.ensures in
    (g.0, (g.1.0, (worked_out _ _ _ le _ _ g.1.1 sin _ w.0 _ _ c.put.ensures.0, worked_out _ _ _ le _ _ g.1.1 cos _ w.1 _ _ c.put.ensures.1)))
