-- Each rounded total is at most the whole sum of the weights so far, so that each mean is from 0 to 1. Assumes nothing.
use mathlib.Core.Path.{◌≡◌, refl, subst}
use mathlib.Core.Bool.{Bool, true, false, ◌&&◌}
use mathlib.Core.List.{List, [], ◌∷◌}
use Prim.Native.Nat.{ℕ, ◌+◌, ◌*◌, ◌^◌, ◌≤◌}
use native.Mathlib.Nat.{le_trans, lt_of_le_of_lt, mul-le-mul_right}
use native.Mathlib.Omega.{arith}
use lib.Dec.{T, leb, ltb, le→leb, lt→ltb, lit<, lit≤}
use lib.ListN.{length}
use lib.Ieee.{Float, nan, inf, fin, binary64, of_int, le}
use lib.Ieee.Fits.{and_i}
use lib.Ieee.Scale.{finite}
use lib.Ieee.Positive.{num, den}
use Rattle.ieee.specs.Operators.{◌⊕◌, ◌⊗◌, ◌⊘◌}
use Rattle.ieee.specs.Functions.{zero_f, one}
use Rattle.ieee.specs.Range.{sgn, plus, Mag, In, holds, at_most, at_least}
use Rattle.ieee.proofs.Range.Constants.{zero_in}
use Rattle.ieee.proofs.Range.Laws.{plus_finite, in_mag, rep_small, round_rep, mul_mag}
use Rattle.ieee.proofs.Range.Round.{round_least, round_plus}
use Rattle.ieee.proofs.Range.Plus.{mul_plus, add_plus}
use Rattle.ieee.proofs.Range.Sums.{add_mag}
use Rattle.ieee.proofs.Range.Quotients.{div_in}
use Rattle.ieee.proofs.Range.Zero.{mul_zero_mag, add_zero_in}
use Rattle.ieee.proofs.Range.Falls.{FromZeroToOne, in_zero_to_one, to_tests}
use Rattle.sheet.specs.Blocks.{All}
use Rattle.sheet.specs.Sheet.{Sheet}
use Rattle.train_steps.specs.declared.State.{State}
use Rattle.band.specs.Band.{at_line, whole, added_up, whole_sum}

-- ---- the tests on bounds, for whole numbers that need be no numerals
small : (n : ℕ) → n ≤ 64000 → T (holds n 0)
small n h = and_i (ltb n (2 ^ 53)) (leb 0 1074) (lt→ltb n (2 ^ 53) (lt_of_le_of_lt h (lit< tt))) tt

most_of : (P Q n : ℕ) → P ≤ n * Q → n ≤ 64000 → T (at_most P Q n 0)
most_of P Q n h m = and_i (leb (P * 2 ^ 0) (n * Q)) (holds n 0) (le→leb (P * 2 ^ 0) (n * Q) (omega arith)) (small n m)

least_of : (P Q : ℕ) → T (at_least P Q 0 0)
least_of P Q = and_i (leb (0 * Q) (P * 2 ^ 0)) (holds 0 0) (le→leb (0 * Q) (P * 2 ^ 0) (omega arith)) tt

-- ---- a whole number
whole_in : (n : ℕ) → n ≤ 64000 → In n 0 n 0 (whole n)
unfolding of_int
whole_in n h =
    let m = round_rep false n 1 n 0 (lit< tt) (rep_small n 0 (small n h)) (omega arith) in
    record { sign = round_plus binary64 n 1 m.fine; least = round_least binary64 n 1 n 0 (lit< tt) (rep_small n 0 (small n h)) (omega arith) m.fine; most = m.most }

-- from 0 on
from_plus : {n : ℕ} {x : Float} → T (plus x) → Mag n 0 x → In 0 0 n 0 x
from_plus p m = record { sign = p; least = omega arith; most = m.most }

wider : {m n : ℕ} {x : Float} → m ≤ n → In 0 0 m 0 x → In 0 0 n 0 x
wider {m} {n} {x} h i = record { sign = i.sign; least = i.least; most = le_trans i.most (mul-le-mul_right (den x) h) }

-- ---- one line more
module _ (t s : Float) (W n : ℕ) (T₀ : In 0 0 W 0 t) (S : FromZeroToOne s) (m : W + n ≤ 64000) where
  clear_sign : sgn s ≡ false → In 0 0 (W + n) 0 (t ⊕ whole n ⊗ s)
  clear_sign e =
      let N = whole_in n (omega arith) in
      let P : Mag n 0 (whole n ⊗ s) = mul_mag (in_mag N) S.mag (most_of (n * 1) (2 ^ 0 * 2 ^ 0) n (omega arith) (omega arith)) in
      let p = mul_plus (whole n) s N.sign (is_plus s S.mag.fine e) P.fine in
      let A : Mag (W + n) 0 (t ⊕ whole n ⊗ s) = add_mag (in_mag T₀) P (most_of (W * 2 ^ 0 + n * 2 ^ 0) (2 ^ 0 * 2 ^ 0) (W + n) (omega arith) m) in
      from_plus (add_plus t (whole n ⊗ s) T₀.sign p A.fine) A
    where
      is_plus : (x : Float) → T (finite x) → sgn x ≡ false → T (plus x)
      is_plus nan f e = absurd f
      is_plus (inf b) f e = absurd f
      is_plus (fin b k j) f e = rw e tt

  set_sign : sgn s ≡ true → In 0 0 (W + n) 0 (t ⊕ whole n ⊗ s)
  set_sign e =
      let z : num s ≡ 0 = S.least (rw e tt) in
      let Z : Mag 0 0 s = record { fine = S.mag.fine; most = omega arith } in
      wider (omega arith) (add_zero_in T₀ (mul_zero_mag (in_mag (whole_in n (omega arith))) Z) (and_i (holds 0 0) (holds W 0) tt (small W (omega arith))))

  one_more : In 0 0 (W + n) 0 (t ⊕ whole n ⊗ s)
  one_more = by (sgn s) refl
    where
      by : (b : Bool) → sgn s ≡ b → In 0 0 (W + n) 0 (t ⊕ whole n ⊗ s)
      by true e = set_sign e
      by false e = clear_sign e

-- ---- all lines
total_in : (power : State → Float) (x : Sheet) (t : Float) (W : ℕ) (ws : List Float) (ns : List ℕ) → length ws ≡ length ns → All (λ (w : Float). FromZeroToOne (power (at_line x w))) ws → In 0 0 W 0 t → W + whole_sum ns ≤ 64000 → In 0 0 (W + whole_sum ns) 0 (added_up power x t ws ns)
unfolding added_up whole_sum
total_in power x t W [] [] l u i m = wider (omega arith) i
total_in power x t W [] (n ∷ ns) l u i m = absurd (omega arith)
total_in power x t W (w ∷ ws) [] l u i m = absurd (omega arith)
total_in power x t W (w ∷ ws) (n ∷ ns) l u i m =
    subst (λ (k : ℕ). In 0 0 k 0 (added_up power x (t ⊕ whole n ⊗ power (at_line x w)) ws ns)) (regroup W n (whole_sum ns))
    (total_in power x (t ⊕ whole n ⊗ power (at_line x w)) (W + n) ws ns (omega arith) u.1 (one_more t (power (at_line x w)) W n i u.0 (omega arith)) (omega arith))
  where
    regroup : (a b c : ℕ) → a + b + c ≡ a + (b + c)
    regroup a b c = omega arith

-- ---- the mean
pub mean_unit : (power : State → Float) (x : Sheet) (ws : List Float) (ns : List ℕ) → length ws ≡ length ns → All (λ (w : Float). FromZeroToOne (power (at_line x w))) ws → 1 ≤ whole_sum ns → whole_sum ns ≤ 64000
    → T (finite (added_up power x zero_f ws ns ⊘ whole (whole_sum ns))) × T (le zero_f (added_up power x zero_f ws ns ⊘ whole (whole_sum ns)) && le (added_up power x zero_f ws ns ⊘ whole (whole_sum ns)) one)
mean_unit power x ws ns l u some most =
    let W = whole_sum ns in
    let t : In 0 0 (0 + W) 0 (added_up power x zero_f ws ns) = total_in power x zero_f 0 ws ns l u zero_in (omega arith) in
    let r : In 0 0 1 0 (added_up power x zero_f ws ns ⊘ whole W) = div_in (wider (omega arith) t) (whole_in W most)
    (and_i (ltb 0 W) _ (lt→ltb 0 W (omega arith)) (and_i (ltb 0 W) _ (lt→ltb 0 W (omega arith)) (and_i (at_least (0 * 2 ^ 0) (2 ^ 0 * W) 0 0) (at_most (W * 2 ^ 0) (2 ^ 0 * W) 1 0) (least_of (0 * 2 ^ 0) (2 ^ 0 * W)) (most_of (W * 2 ^ 0) (2 ^ 0 * W) 1 (omega arith) (lit≤ tt))))) in
    (plus_finite (added_up power x zero_f ws ns ⊘ whole W) r.sign, to_tests (in_zero_to_one r))
