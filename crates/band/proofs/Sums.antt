-- What is added up so far, and what is left. Assumes nothing.
use mathlib.Core.Path.{◌≡◌, refl, sym, ap, ◌∙◌}
use mathlib.Core.Bool.{◌&&◌}
use mathlib.Core.List.{List, [], ◌∷◌}
use Prim.Native.Nat.{ℕ, zero, suc, ◌+◌, ◌*◌, ◌≤◌, ◌<◌}
use native.Mathlib.Numerals.{add-one}
use native.Mathlib.Omega.{arith}
use lib.Dec.{T, eqb, leb, eqb→eq, leb→le}
use lib.ListN.{length, get_or, drop, drop_of_length-le}
use lib.Seq.{drop-cons}
use lib.Ieee.{Float}
use Rattle.ieee.specs.Operators.{◌⊕◌, ◌⊗◌}
use Rattle.sheet.specs.Blocks.{All}
use Rattle.sheet.specs.Sheet.{Sheet}
use Rattle.gate.specs.Wavelength.{holds}
use Rattle.gate.proofs.Wavelengths.{both}
use Rattle.train_steps.specs.declared.State.{State}
use Rattle.band.specs.Band.{at_line, lines_fit, weight_passes, whole, added_up, whole_sum}
use Rattle.band.specs.Internal.{AllPass}

-- ---- the weights
module _ (ns : List ℕ) (i : ℕ) where
  pub one_weight : (d : ℕ) → i < length ns → whole_sum (drop i ns) ≡ get_or ns i d + whole_sum (drop (i + 1) ns)
  unfolding whole_sum
  one_weight d lt = ap whole_sum (drop-cons ns i d lt) ∙ ap (λ (k : ℕ). get_or ns i d + whole_sum (drop k ns)) (sym (add-one i))

  pub no_weight : length ns ≤ i → whole_sum (drop i ns) ≡ 0
  unfolding whole_sum
  no_weight le = ap whole_sum (drop_of_length-le ns le)

-- ---- the sums
module _ (power : State → Float) (x : Sheet) (ws : List Float) (ns : List ℕ) (i : ℕ) where
  pub one_line : (d : Float) (e : ℕ) → i < length ws → length ws ≡ length ns → (total s : Float) → s ≡ power (at_line x (get_or ws i d))
      → added_up power x total (drop i ws) (drop i ns) ≡ added_up power x (total ⊕ whole (get_or ns i e) ⊗ s) (drop (i + 1) ws) (drop (i + 1) ns)
  unfolding added_up
  one_line d e lt l total s is =
      (λ k. added_up power x total (drop-cons ws i d lt k) (drop-cons ns i e (omega arith) k))
      ∙ (λ k. added_up power x (total ⊕ whole (get_or ns i e) ⊗ sym is k) (drop (sym (add-one i) k) ws) (drop (sym (add-one i) k) ns))

  pub no_line : length ws ≤ i → (total : Float) → added_up power x total (drop i ws) (drop i ns) ≡ total
  unfolding added_up
  no_line le total = ap (λ (l : List Float). added_up power x total l (drop i ns)) (drop_of_length-le ws le)

-- ---- within a list it does not matter what stands past its end
pub same_place : (ws : List Float) (i : ℕ) (d e : Float) → i < length ws → get_or ws i d ≡ get_or ws i e
same_place [] i d e lt = absurd (omega arith)
same_place (w ∷ ws) zero d e lt = refl
same_place (w ∷ ws) (suc i) d e lt = same_place ws i d e (omega arith)

-- ---- the i-th line passes
pub passes_at : (x : Sheet) (ws : List Float) (d : Float) (i : ℕ) → AllPass x ws → i < length ws → T (holds (get_or ws i d) x.surfaces)
passes_at x [] d i h lt = absurd (omega arith)
passes_at x (w ∷ ws) d zero h lt = h.0
passes_at x (w ∷ ws) d (suc i) h lt = passes_at x ws d i h.1 (omega arith)

-- ---- 64 weights of at most 1,000
pub heavy : (ns : List ℕ) → All (λ (n : ℕ). T (weight_passes n)) ns → whole_sum ns ≤ 1000 * length ns
unfolding whole_sum
heavy [] h = omega arith
heavy (n ∷ ns) h = omega (arith, leb→le n 1000 (both (leb 1 n) (leb n 1000) h.0).1, heavy ns h.1)

-- ---- as many weights as lines
module _ (ws : List Float) (ns : List ℕ) (fit : T (lines_fit ws ns)) where
  pub equal : length ws ≡ length ns
  equal = let a = both (leb 1 (length ws)) (leb (length ws) 64 && eqb (length ws) (length ns)) fit in eqb→eq (length ws) (length ns) (both (leb (length ws) 64) (eqb (length ws) (length ns)) a.1).1

  pub few : length ws ≤ 64
  few = let a = both (leb 1 (length ws)) (leb (length ws) 64 && eqb (length ws) (length ns)) fit in leb→le (length ws) 64 (both (leb (length ws) 64) (eqb (length ws) (length ns)) a.1).0

  pub light : All (λ (n : ℕ). T (weight_passes n)) ns → whole_sum ns ≤ 64000
  light h = omega (arith, heavy ns h, equal, few)
