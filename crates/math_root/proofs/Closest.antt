-- The laws of `isqrt` and `closest_root`: a larger number has a root that is no smaller, and equal fractions have the same root. Nothing here is about floats. Assumes nothing.
use mathlib.Core.Path.{◌≡◌, refl, sym, ap, ◌∙◌, subst}
use mathlib.Core.Logic.{inl, inr}
use Prim.Native.Nat.{ℕ, zero, suc, ◌+◌, ◌-◌, ◌*◌, ◌/◌, ◌%◌, ◌≤◌, ◌<◌, compare, Ordering}
use native.Mathlib.Nat.{le_refl, le_trans, le_of_eq, le_of_lt, le_antisymm, le_of_suc-le-suc, lt_of_not-le, not-le_of_lt, eq-or-lt_of_le, mul_right_comm, mul-le-mul, mul-le-mul_right, mul-lt-mul_of_pos_right, div-one, le-div_iff_mul-le, div-lt_iff_lt-mul}
use native.Mathlib.Decide.{dec_le}
use native.Mathlib.Omega.{arith}
use lib.Ieee.{nearest}
use lib.Ieee.Fits.{nearest-le}
use lib.Ieee.Nearest.{nearest-ge, div_mono}
use Rattle.ieee.proofs.Range.Relative.{Cmp, cmp}
use Rattle.math_root.specs.Root.{mid_square, isqrt, closest_root}
use Rattle.math_root.proofs.Floor.{isqrt_le, isqrt_lt}

-- ---- `isqrt`

pub isqrt_ge : (n q : ℕ) → q * q ≤ n → q ≤ isqrt n
isqrt_ge n q h = le_of_suc-le-suc (lt_of_not-le (λ (g : suc (isqrt n) ≤ q). not-le_of_lt (isqrt_lt n) (le_trans (mul-le-mul g g) h)))

pub isqrt_below : (n q : ℕ) → n < q * q → isqrt n < q
isqrt_below n q h = lt_of_not-le (λ (g : q ≤ isqrt n). not-le_of_lt h (le_trans (mul-le-mul g g) (isqrt_le n)))

pub isqrt_unique : (n q : ℕ) → q * q ≤ n → n < suc q * suc q → isqrt n ≡ q
isqrt_unique n q lo hi = le_antisymm (le_of_suc-le-suc (isqrt_below n (suc q) hi)) (isqrt_ge n q lo)

pub isqrt_mono : (a b : ℕ) → a ≤ b → isqrt a ≤ isqrt b
isqrt_mono a b h = isqrt_ge b (isqrt a) (le_trans (isqrt_le a) h)

square_lt : (q : ℕ) → q * q < suc q * suc q
square_lt q = omega arith

pub isqrt_square : (q : ℕ) → isqrt (q * q) ≡ q
isqrt_square q = isqrt_unique (q * q) q (le_refl (q * q)) (square_lt q)

-- ---- `closest_root`

pub closest_root_is : (a b : ℕ) → closest_root a b ≡ nearest (isqrt (a / b)) (compare (4 * a) (mid_square (isqrt (a / b)) * b))
unfolding closest_root
closest_root_is a b = refl

-- A / b is not M or more while C / d is below M, nor above M while C / d is M or less, for A / b ≤ C / d
at_least_then_less : (A b C d M : ℕ) → A * d ≤ C * b → 0 < b → M * b ≤ A → C < M * d → ⊥
at_least_then_less A b C d M h B x y =
    let p : M * b * d ≤ A * d = mul-le-mul_right d x in
    let q : C * b < M * d * b = mul-lt-mul_of_pos_right y B in
    let e : M * b * d ≡ M * d * b = mul_right_comm M b d in
    omega arith

more_then_at_most : (A b C d M : ℕ) → A * d ≤ C * b → 0 < d → M * b < A → C ≤ M * d → ⊥
more_then_at_most A b C d M h D x y =
    let p : M * b * d < A * d = mul-lt-mul_of_pos_right x D in
    let q : C * b ≤ M * d * b = mul-le-mul_right b y in
    let e : M * b * d ≡ M * d * b = mul_right_comm M b d in
    omega arith

same_whole : (w : ℕ) (o p : Ordering) (A b C d M : ℕ) → Cmp o A (M * b) → Cmp p C (M * d) → A * d ≤ C * b → 0 < b → 0 < d → nearest w o ≤ nearest w p
same_whole w Ordering.lt p A b C d M x y h B D = nearest-ge w p
same_whole w Ordering.eq Ordering.lt A b C d M x y h B D = absurd (at_least_then_less A b C d M h B (le_of_eq (sym x)) y)
same_whole w Ordering.eq Ordering.eq A b C d M x y h B D = le_refl (w + w % 2)
same_whole w Ordering.eq Ordering.gt A b C d M x y h B D = nearest-le w Ordering.eq
same_whole w Ordering.gt Ordering.lt A b C d M x y h B D = absurd (more_then_at_most A b C d M h D x (le_of_lt y))
same_whole w Ordering.gt Ordering.eq A b C d M x y h B D = absurd (more_then_at_most A b C d M h D x (le_of_eq y))
same_whole w Ordering.gt Ordering.gt A b C d M x y h B D = le_refl (suc w)

-- a larger fraction
pub closest_root_mono : (a b c d : ℕ) → 0 < b → 0 < d → a * d ≤ c * b → closest_root a b ≤ closest_root c d
closest_root_mono a b c d B D h =
    let p = isqrt (a / b) in
    let q = isqrt (c / d) in
    let o = compare (4 * a) (mid_square p * b) in
    let r = compare (4 * c) (mid_square q * d) in
    let four : 4 * a * d ≤ 4 * c * b = times_four a b c d h in
    rw (closest_root_is a b, closest_root_is c d)
    (elim (eq-or-lt_of_le (isqrt_mono (a / b) (c / d) (div_mono a b c d B D h))) [
      | inl e ↦
          subst (λ (w : ℕ). nearest w (compare (4 * a) (mid_square w * b)) ≤ nearest q r) (sym e)
          (same_whole q (compare (4 * a) (mid_square q * b)) r (4 * a) b (4 * c) d (mid_square q)
          (cmp (4 * a) (mid_square q * b)) (cmp (4 * c) (mid_square q * d)) four B D)
      | inr l ↦ le_trans (nearest-le p o) (le_trans l (nearest-ge q r))
    ])
  where
    times_four : (a b c d : ℕ) → a * d ≤ c * b → 4 * a * d ≤ 4 * c * b
    times_four a b c d h = omega arith

-- equal fractions
pub closest_root_same : (a b c d : ℕ) → 0 < b → 0 < d → a * d ≡ c * b → closest_root a b ≡ closest_root c d
closest_root_same a b c d B D e = le_antisymm (closest_root_mono a b c d B D (le_of_eq e)) (closest_root_mono c d a b D B (le_of_eq (sym e)))

-- ---- the root of a whole number n, from the root q that is cut and what its square leaves: it is q or q + 1, and never halfway
below_half : (q r : ℕ) → r ≤ q → 4 * (q * q + r) < mid_square q * 1
below_half q r h = omega arith

above_half : (q r : ℕ) → q < r → mid_square q * 1 < 4 * (q * q + r)
above_half q r h = omega arith

pick_lt : (w : ℕ) (o : Ordering) (a b : ℕ) → Cmp o a b → a < b → nearest w o ≡ w
pick_lt w Ordering.lt a b c h = refl
pick_lt w Ordering.eq a b c h = absurd (not-le_of_lt h (le_of_eq (sym c)))
pick_lt w Ordering.gt a b c h = absurd (not-le_of_lt h (le_of_lt c))

pick_gt : (w : ℕ) (o : Ordering) (a b : ℕ) → Cmp o a b → b < a → nearest w o ≡ suc w
pick_gt w Ordering.lt a b c h = absurd (not-le_of_lt h (le_of_lt c))
pick_gt w Ordering.eq a b c h = absurd (not-le_of_lt h (le_of_eq c))
pick_gt w Ordering.gt a b c h = refl

root_of : (q r : ℕ) → r ≤ 2 * q → isqrt ((q * q + r) / 1) ≡ q
root_of q r h = ap isqrt (div-one (q * q + r)) ∙ isqrt_unique (q * q + r) q (low q r) (high q r h)
  where
    low : (q r : ℕ) → q * q ≤ q * q + r
    low q r = omega arith

    high : (q r : ℕ) → r ≤ 2 * q → q * q + r < suc q * suc q
    high q r h = omega arith

pub closest_root_down : (q r : ℕ) → r ≤ q → closest_root (q * q + r) 1 ≡ q
closest_root_down q r h =
    let n = q * q + r in
    closest_root_is n 1
    ∙ ap (λ (w : ℕ). nearest w (compare (4 * n) (mid_square w * 1))) (root_of q r (twice q r h))
    ∙ pick_lt q (compare (4 * n) (mid_square q * 1)) (4 * n) (mid_square q * 1) (cmp (4 * n) (mid_square q * 1)) (below_half q r h)
  where
    twice : (q r : ℕ) → r ≤ q → r ≤ 2 * q
    twice q r h = omega arith

pub closest_root_up : (q r : ℕ) → q < r → r ≤ 2 * q → closest_root (q * q + r) 1 ≡ suc q
closest_root_up q r h k =
    let n = q * q + r in
    closest_root_is n 1
    ∙ ap (λ (w : ℕ). nearest w (compare (4 * n) (mid_square w * 1))) (root_of q r k)
    ∙ pick_gt q (compare (4 * n) (mid_square q * 1)) (4 * n) (mid_square q * 1) (cmp (4 * n) (mid_square q * 1)) (above_half q r h)

-- the number q is nearest where n is above q * (q - 1) and not above q * (q + 1)
pub closest_root_at : (n q : ℕ) → q * q < n + q → n ≤ q * q + q → closest_root n 1 ≡ q
closest_root_at n q lo hi = go (dec_le (q * q) n)
  where
    down : (n s q : ℕ) → s ≤ n → n ≤ s + q → n - s ≤ q
    down n s q h k = omega arith

    whole : (n s : ℕ) → s ≤ n → n ≡ s + (n - s)
    whole n s h = omega arith

    go : Dec (q * q ≤ n) → closest_root n 1 ≡ q
    go (yes p) = ap (λ (x : ℕ). closest_root x 1) (whole n (q * q) p) ∙ closest_root_down q (n - q * q) (down n (q * q) q p hi)
    go (no f) = under n q (lt_of_not-le f) lo
      where
        above : (n p : ℕ) → n < suc p * suc p → suc p * suc p < n + suc p → p < n - p * p
        above n p h k = omega arith

        most : (n p : ℕ) → n < suc p * suc p → n - p * p ≤ 2 * p
        most n p h = omega arith

        least : (n p : ℕ) → suc p * suc p < n + suc p → p * p ≤ n
        least n p k = omega arith

        none : (n : ℕ) → n < 0 * 0 → ⊥
        none n h = omega arith

        under : (n q : ℕ) → n < q * q → q * q < n + q → closest_root n 1 ≡ q
        under n zero h k = absurd (none n h)
        under n (suc p) h k = ap (λ (x : ℕ). closest_root x 1) (whole n (p * p) (least n p k)) ∙ closest_root_up p (n - p * p) (above n p h k) (most n p h)

-- a square
pub closest_root_square : (q : ℕ) → closest_root (q * q) 1 ≡ q
closest_root_square q = ap (λ (n : ℕ). closest_root n 1) (plus_zero (q * q)) ∙ closest_root_down q 0 (none q)
  where
    plus_zero : (n : ℕ) → n ≡ n + 0
    plus_zero n = omega arith

    none : (q : ℕ) → 0 ≤ q
    none q = omega arith

-- ---- the root that is picked is off by a half at most: 4 * a / b is between the squares of 2 * r - 1 and 2 * r + 1
abbrev pub Half : ℕ → ℕ → ℕ → Type 0
Half a b r = ((2 * r - 1) * (2 * r - 1) * b ≤ 4 * a) × (4 * a ≤ mid_square r * b)

half_at : (w : ℕ) (o : Ordering) (a b : ℕ) → w * w * b ≤ a → a < suc w * suc w * b → Cmp o (4 * a) (mid_square w * b) → Half a b (nearest w o)
half_at w Ordering.lt a b lo hi c = (le_trans (mul-le-mul_right b (mul-le-mul (less w) (less w))) (four w a b lo), le_of_lt c)
  where
    less : (w : ℕ) → 2 * w - 1 ≤ 2 * w
    less w = omega arith

    four : (w a b : ℕ) → w * w * b ≤ a → 2 * w * (2 * w) * b ≤ 4 * a
    four w a b h = omega arith
half_at w Ordering.eq a b lo hi c = go (w % 2) (small w)
  where
    small : (w : ℕ) → w % 2 < 2
    small w = omega arith

    stay : (w t : ℕ) → t ≡ 0 → w + t ≡ w
    stay w t e = omega arith

    step : (w : ℕ) → w + 1 ≡ suc w
    step w = omega arith

    less : (w : ℕ) → 2 * w - 1 ≤ 2 * w + 1
    less w = omega arith

    odd : (w : ℕ) → 2 * suc w - 1 ≡ 2 * w + 1
    odd w = omega arith

    more : (w : ℕ) → 2 * w + 1 ≤ 2 * suc w + 1
    more w = omega arith

    go : (t : ℕ) → t < 2 → Half a b (w + t)
    go zero h = subst (λ (x : ℕ). Half a b x) (sym (stay w 0 refl)) (le_trans (mul-le-mul_right b (mul-le-mul (less w) (less w))) (le_of_eq (sym c)), le_of_eq c)
    go (suc zero) h =
        subst (λ (x : ℕ). Half a b x) (sym (step w))
        (le_of_eq (ap (λ (z : ℕ). z * z * b) (odd w) ∙ sym c), le_trans (le_of_eq c) (mul-le-mul_right b (mul-le-mul (more w) (more w))))
    go (suc (suc t)) h = absurd (no t h)
      where
        no : (t : ℕ) → suc (suc t) < 2 → ⊥
        no t h = omega arith
half_at w Ordering.gt a b lo hi c = (le_trans (le_of_eq (ap (λ (z : ℕ). z * z * b) (odd w))) (le_of_lt c), four w a b hi)
  where
    odd : (w : ℕ) → 2 * suc w - 1 ≡ 2 * w + 1
    odd w = omega arith

    four : (w a b : ℕ) → a < suc w * suc w * b → 4 * a ≤ (2 * suc w + 1) * (2 * suc w + 1) * b
    four w a b h = omega arith

pub closest_root_half : (a b : ℕ) → 0 < b → Half a b (closest_root a b)
closest_root_half a b B =
    let q = isqrt (a / b) in
    subst (λ (r : ℕ). Half a b r) (sym (closest_root_is a b))
    (half_at q (compare (4 * a) (mid_square q * b)) a b ((le-div_iff_mul-le B).0 (isqrt_le (a / b))) ((div-lt_iff_lt-mul B).0 (isqrt_lt (a / b))) (cmp (4 * a) (mid_square q * b)))
