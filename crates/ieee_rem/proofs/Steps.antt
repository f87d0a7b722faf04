-- What the loops keep. Assumes nothing.
use mathlib.Core.Path.{◌≡◌, refl, sym, ap, ◌∙◌}
use Prim.Native.Nat.{ℕ, zero, suc, ◌+◌, ◌-◌, ◌*◌, ◌/◌, ◌%◌, ◌^◌, ◌≤◌, ◌<◌}
use native.Mathlib.Nat.{le_trans, le_of_eq, lt_of_lt_of_le, lt_irrefl, not-le_of_lt, zero-lt-suc, mul-one, add_comm, mul_assoc, mul_right_comm, mul-lt-mul_of_pos_right, mul-le-mul, add-mul, add-mul-mod_self_right, div-add-mod', mod-eq_of_lt}
use native.Mathlib.Omega.{arith}
use mathlib.Core.Bool.{Bool, cond}
use borrow.Author.Tests.{le-leb, lt-leb}
use lib.Dec.{lit≤}
use lib.Pow.{pow_pos, pow-add, pow_mono}
use Rattle.ieee_rem.specs.Internal.{pack}

-- a remainder multiplied
pub mod_times : (a n c : ℕ) → a % n * c % n ≡ a * c % n
mod_times a n c =
    sym (add-mul-mod_self_right (a % n * c) (a / n * c) n)
    ∙ ap (λ (z : ℕ). z % n) (add_comm (a % n * c) (a / n * c * n) ∙ ap (λ (z : ℕ). z + a % n * c) (mul_right_comm (a / n) c n) ∙ sym (add-mul (a / n * n) (a % n) c) ∙ ap (λ (z : ℕ). z * c) (div-add-mod' a n))

-- ---- left
pub started : (m n d : ℕ) → m % n ≡ m * 2 ^ (d - d) % n
started m n d = ap (λ (z : ℕ). z % n) (sym (mul-one m) ∙ ap (λ (k : ℕ). m * 2 ^ k) (sym (none d)))
  where
    none : (d : ℕ) → d - d ≡ 0
    none d = omega arith

pub eleven : (m n d r k : ℕ) → k ≤ d → 11 ≤ k → r ≡ m * 2 ^ (d - k) % n → r * 2048 % n ≡ m * 2 ^ (d - (k - 11)) % n
eleven m n d r k h g e =
    ap (λ (z : ℕ). z * 2048 % n) e
    ∙ mod_times (m * 2 ^ (d - k)) n 2048
    ∙ ap (λ (z : ℕ). z % n) (mul_assoc m (2 ^ (d - k)) (2 ^ 11) ∙ ap (λ (z : ℕ). m * z) (sym (pow-add 2 (d - k) 11)) ∙ ap (λ (z : ℕ). m * 2 ^ z) (more d k h g))
  where
    more : (d k : ℕ) → k ≤ d → 11 ≤ k → d - k + 11 ≡ d - (k - 11)
    more d k h g = omega arith

pub shifted : (r n k : ℕ) → r < n → n < 2 ^ 53 → k < 11 → r * 2 ^ k < 2 ^ 64
shifted r n k a b c = lt_of_lt_of_le (mul-lt-mul_of_pos_right (small r n a b) (pow_pos k)) (le_trans (mul-le-mul (le_of_eq refl) (pow_mono (few k c))) (lit≤ {m = 2 ^ 53 * 2 ^ 10} {n = 2 ^ 64} tt))
  where
    small : (r n : ℕ) → r < n → n < 2 ^ 53 → r < 2 ^ 53
    small r n a b = omega arith

    few : (k : ℕ) → k < 11 → k ≤ 10
    few k c = omega arith

pub ended : (m n d r k : ℕ) → k ≤ d → r < n → n < 2 ^ 53 → k < 11 → r ≡ m * 2 ^ (d - k) % n → r * 2 ^ k % 2 ^ 64 % n ≡ m * 2 ^ d % n
ended m n d r k h a b c e =
    ap (λ (z : ℕ). z % n) (mod-eq_of_lt (shifted r n k a b c))
    ∙ ap (λ (z : ℕ). z * 2 ^ k % n) e
    ∙ mod_times (m * 2 ^ (d - k)) n (2 ^ k)
    ∙ ap (λ (z : ℕ). z % n) (mul_assoc m (2 ^ (d - k)) (2 ^ k) ∙ ap (λ (z : ℕ). m * z) (sym (pow-add 2 (d - k) k)) ∙ ap (λ (z : ℕ). m * 2 ^ z) (whole d k h))
  where
    whole : (d k : ℕ) → k ≤ d → d - k + k ≡ d
    whole d k h = omega arith

-- ---- pack
pub pack_zero : (j : ℕ) → pack 0 j ≡ 0
unfolding pack
pack_zero zero = refl
pack_zero (suc j) = pack_zero j

pub stop : (m k : ℕ) → 0 < k → 2 ^ 52 ≤ m → pack m k ≡ (k - 1 + 1) * 2 ^ 52 + m
unfolding pack
stop m zero h g = absurd (lt_irrefl 0 h)
stop m (suc k) h g = ap (λ (b : Bool). cond b (suc k * 2 ^ 52 + m) (pack (m * 2) k)) (le-leb (2 ^ 52) m g) ∙ ap (λ (n : ℕ). n * 2 ^ 52 + m) (before k)
  where
    before : (k : ℕ) → suc k ≡ suc k - 1 + 1
    before k = omega arith

pub again : (m k : ℕ) → 0 < k → m < 2 ^ 52 → pack (m * 2) (k - 1) ≡ pack m k
unfolding pack
again m zero h g = absurd (lt_irrefl 0 h)
again m (suc k) h g = ap (pack (m * 2)) (before k) ∙ ap (λ (b : Bool). cond b (suc k * 2 ^ 52 + m) (pack (m * 2) k)) (sym (lt-leb (2 ^ 52) m g))
  where
    before : (k : ℕ) → suc k - 1 ≡ k
    before k = omega arith

pub last : (m k : ℕ) → k ≤ 0 → m ≡ pack m k
unfolding pack
last m zero h = refl
last m (suc k) h = absurd (not-le_of_lt (zero-lt-suc k) h)
