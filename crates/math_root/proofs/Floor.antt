-- `isqrt n` is the root of n cut to a whole number: its square is at most n, and the square of the next number is above n. Assumes nothing.
use mathlib.Core.Path.{refl, subst}
use Prim.Native.Nat.{ℕ, zero, suc, ◌*◌, ◌/◌, ◌^◌, ◌≤◌, ◌<◌, zero-le}
use native.Mathlib.Nat.{le_of_eq, lt_of_lt_of_le, zero-lt-suc, pow-suc, div-lt_iff_lt-mul}
use native.Mathlib.Omega.{arith}
use mathlib.Core.Bool.{Bool, true, false, not, cond}
use lib.Dec.{T, leb, leb→le, nleb→lt}
use lib.Ieee.{size}
use lib.Ieee.Digits.{size-lt}
use Rattle.math_root.specs.Root.{digit, floor_root, isqrt}

-- r is the root of n, cut to a whole number
abbrev pub IsRoot : ℕ → ℕ → Type 0
IsRoot n r = (r * r ≤ n) × (n < suc r * suc r)

-- with s the root of n / 4, and p for s * s: 2 * s is at most the root of n, which is below 2 * s + 2
low_of : (n s : ℕ) → s * s ≤ n / 4 → 2 * s * (2 * s) ≤ n
low_of n s h = omega arith

high_of : (n s : ℕ) → n / 4 < suc s * suc s → n < suc (suc (2 * s)) * suc (suc (2 * s))
high_of n s h = omega arith

digit_root : (n r : ℕ) → r * r ≤ n → n < suc (suc r) * suc (suc r) → IsRoot n (digit n r)
digit_root n r lo hi = go (leb (suc r * suc r) n) (leb→le (suc r * suc r) n) (nleb→lt (suc r * suc r) n)
  where
    go : (b : Bool) → (T b → suc r * suc r ≤ n) → (T (not b) → n < suc r * suc r) → IsRoot n (cond b (suc r) r)
    go true y f = (y tt, hi)
    go false y f = (lo, f tt)

floor_root_is : (d n : ℕ) → n < 4 ^ d → IsRoot n (floor_root d n)
unfolding floor_root
floor_root_is zero n h = (zero-le, h)
floor_root_is (suc d) n h =
    let s = floor_root d (n / 4) in
    let i = floor_root_is d (n / 4) ((div-lt_iff_lt-mul (zero-lt-suc 3)).1 (subst (λ (x : ℕ). n < x) (pow-suc 4 d) h)) in
    digit_root n (2 * s) (low_of n s i.0) (high_of n s i.1)

pow_two_four : (d : ℕ) → 2 ^ d ≤ 4 ^ d
pow_two_four zero = le_of_eq refl
pow_two_four (suc d) = let h = pow_two_four d in omega arith

pub isqrt_is : (n : ℕ) → IsRoot n (isqrt n)
unfolding isqrt
isqrt_is n = floor_root_is (size n) n (lt_of_lt_of_le (size-lt n) (pow_two_four (size n)))

pub isqrt_le : (n : ℕ) → isqrt n * isqrt n ≤ n
isqrt_le n = (isqrt_is n).0

pub isqrt_lt : (n : ℕ) → n < suc (isqrt n) * suc (isqrt n)
isqrt_lt n = (isqrt_is n).1
