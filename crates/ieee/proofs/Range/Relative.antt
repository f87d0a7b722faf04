-- The error of rounding. A fraction a / c in the normal range is off by no more than one part in 2 ^ prec (`relative`): 2 ^ -53 of it for an f64.
-- `near` is the error in the unit that was kept. Over either format. Assumes nothing.
use mathlib.Core.Path.{◌≡◌, sym, ap, ◌∙◌, subst}
use Prim.Native.Nat.{ℕ, suc, ◌+◌, ◌-◌, ◌*◌, ◌/◌, ◌%◌, ◌^◌, ◌≤◌, ◌<◌, compare, Ordering}
use native.Mathlib.Nat.{le_trans, le_of_eq, mul_comm, mul_assoc, mul_left_comm, mul_right_comm, mul-le-mul_right, le_of_mul-le-mul_right, mul-pos, add-mul, mod-lt, div-add-mod', le-div_iff_mul-le, pow-succ'}
use native.Mathlib.Omega.{arith}
use mathlib.Core.Bool.{Bool, false, not}
use lib.Dec.{T, is_le, compare_is_eq, eqb, leb→le, nleb→lt, eqb→eq, eqb_refl}
use lib.Arith.{lt_of_le-ne}
use lib.Pow.{pow-add, pow_pos}
use lib.Ieee.{Format, prec, low, size, nearest, round}
use lib.Ieee.Digits.{size_reaches}
use lib.Ieee.Fits.{two, two-le_pos}
use lib.Ieee.Nearest.{closest}
use lib.Ieee.Order.{drop}
use lib.Ieee.Scale.{grid, finite, round_under, normal_of_fraction}
use lib.Ieee.Positive.{num, den}
use Rattle.ieee.proofs.Range.Round.{value_cross, round_value}

-- ---- what `compare` says
abbrev pub Cmp : Ordering → ℕ → ℕ → Type 0
Cmp Ordering.lt a b = a < b
Cmp Ordering.eq a b = a ≡ b
Cmp Ordering.gt a b = b < a

pub cmp : (a b : ℕ) → Cmp (compare a b) a b
cmp a b = go (compare a b) (leb→le a b) (nleb→lt a b) (eqb→eq a b) (λ (e : a ≡ b). subst (λ (x : ℕ). T (eqb a x)) e (eqb_refl a))
  where
    go : (o : Ordering) → (T (is_le o) → a ≤ b) → (T (not (is_le o)) → b < a) → (T (compare_is_eq o) → a ≡ b) → (a ≡ b → T (compare_is_eq o)) → Cmp o a b
    go Ordering.lt h k e n = lt_of_le-ne (h tt) n
    go Ordering.eq h k e n = e tt
    go Ordering.gt h k e n = k tt

-- ---- the nearest whole number is off by half a unit at the most
abbrev pub Close : ℕ → ℕ → ℕ → Type 0
Close c n u = (2 * (c * u) ≤ 2 * n + u) × (2 * n ≤ 2 * (c * u) + u)

at_lt : (q r u n : ℕ) → q * u + r ≡ n → r * 2 < u → Close q n u
at_lt q r u n e h = omega arith

at_gt : (q r u n : ℕ) → q * u + r ≡ n → r < u → u < r * 2 → Close (suc q) n u
at_gt q r u n e l h = omega arith

at_eq : (q t r u n : ℕ) → t < 2 → q * u + r ≡ n → r * 2 ≡ u → Close (q + t) n u
at_eq q t r u n l e h =
    let s : (q + t) * u ≡ q * u + t * u = add-mul q t u in
    let m : t * u ≤ 1 * u = mul-le-mul_right u (below_two t l) in
    omega arith
  where
    below_two : (t : ℕ) → t < 2 → t ≤ 1
    below_two t l = omega arith

pub near : (n u : ℕ) → 0 < u → Close (closest n u) n u
near n u U = go (compare (n % u * 2) u) (cmp (n % u * 2) u)
  where
    go : (o : Ordering) → Cmp o (n % u * 2) u → Close (nearest (n / u) o) n u
    go Ordering.lt h = at_lt (n / u) (n % u) u n (div-add-mod' n u) h
    go Ordering.eq h = at_eq (n / u) (n / u % 2) (n % u) u n (mod-lt (n / u) (lit2 (n / u))) (div-add-mod' n u) h
      where
        lit2 : (x : ℕ) → 0 < 2
        lit2 x = omega arith
    go Ordering.gt h = at_gt (n / u) (n % u) u n (div-add-mod' n u) (mod-lt n U) h

-- ---- in the normal range the unit is a small part of the fraction
digits : (z p : ℕ) → 0 < p → p ≤ z → p - 1 + (z - p) < z
digits z p P h = omega arith

unit_small : (f : Format) (a c : ℕ) → 0 < c → prec f ≤ size (a * 2 ^ low f / c) → 2 ^ (prec f - 1) * (c * 2 ^ drop (prec f) (a * 2 ^ low f) c) ≤ a * 2 ^ low f
unit_small f a c C h =
    let n = a * 2 ^ low f in
    let p = prec f in
    let k = drop p n c in
    let w : 2 ^ (p - 1 + k) ≤ n / c = size_reaches (n / c) (p - 1 + k) (digits (size (n / c)) p (two-le_pos p (two f)) h) in
    le_trans (le_of_eq (sym (ap (λ (z : ℕ). z * c) (pow-add 2 (p - 1) k) ∙ simp (mul_assoc, mul_comm, mul_left_comm)))) ((le-div_iff_mul-le C).0 w)

twice : (p : ℕ) → 0 < p → suc (p - 1) ≡ p
twice p h = omega arith

-- g / c' is g * c against n, with P = 2 ^ prec: |g * c - n| ≤ n / P
combine : (gc n u H P : ℕ) → P ≡ 2 * H → 2 * gc ≤ 2 * n + u → 2 * n ≤ 2 * gc + u → H * u ≤ n → (gc * P ≤ n * P + n) × (n * P ≤ gc * P + n)
combine gc n u H P e a b h =
    let a' : 2 * gc * H ≤ (2 * n + u) * H = mul-le-mul_right H a in
    let b' : 2 * n * H ≤ (2 * gc + u) * H = mul-le-mul_right H b in
    (rw e (up_half gc n u H a' h), rw e (down_half gc n u H b' h))
  where
    up_half : (g n u H : ℕ) → 2 * g * H ≤ (2 * n + u) * H → H * u ≤ n → g * (2 * H) ≤ n * (2 * H) + n
    up_half g n u H a h = omega arith

    down_half : (g n u H : ℕ) → 2 * n * H ≤ (2 * g + u) * H → H * u ≤ n → n * (2 * H) ≤ g * (2 * H) + n
    down_half g n u H b h = omega arith

-- ---- the error of `grid`, the rounded fraction in units of the format's smallest value
pub grid_relative : (f : Format) (a c : ℕ) → 0 < c → 2 ^ (prec f - 1) * c ≤ a * 2 ^ low f
    → (grid f a c * c * 2 ^ prec f ≤ a * 2 ^ low f * 2 ^ prec f + a * 2 ^ low f) × (a * 2 ^ low f * 2 ^ prec f ≤ grid f a c * c * 2 ^ prec f + a * 2 ^ low f)
grid_relative f a c C h =
    let n = a * 2 ^ low f in
    let p = prec f in
    let k = drop p n c in
    let u = c * 2 ^ k in
    let g : closest n u * u ≡ grid f a c * c = ap (λ (z : ℕ). closest n u * z) (mul_comm c (2 ^ k)) ∙ sym (mul_assoc (closest n u) (2 ^ k) c) in
    let m = near n u (mul-pos C (pow_pos k)) in
    combine (grid f a c * c) n u (2 ^ (p - 1)) (2 ^ p)
    (ap (λ (z : ℕ). 2 ^ z) (sym (twice p (two-le_pos p (two f)))) ∙ pow-succ' 2 (p - 1))
    (subst (λ (z : ℕ). 2 * z ≤ 2 * n + u) g m.0)
    (subst (λ (z : ℕ). 2 * n ≤ 2 * z + u) g m.1)
    (unit_small f a c C (normal_of_fraction f a c C h))

-- the value N / d is the grid's G / L, and so in the same order to n / L / c
across : (N d G L c P : ℕ) → N * L ≡ G * d → N * c * P * L ≡ G * c * P * d
across N d G L c P e = mul_right_comm (N * c) P L ∙ ap (λ (z : ℕ). z * P) (mul_right_comm N c L ∙ ap (λ (z : ℕ). z * c) e ∙ mul_right_comm G d c) ∙ mul_right_comm (G * c) d P

carry_up : (N d G L a c P : ℕ) → 0 < L → N * L ≡ G * d → G * c * P ≤ a * L * P + a * L → N * c * P ≤ a * d * P + a * d
carry_up N d G L a c P L0 e h =
    let k : N * c * P * L ≡ G * c * P * d = across N d G L c P e in
    le_of_mul-le-mul_right
    (le_trans (le_of_eq k)
    (le_trans (mul-le-mul_right d h)
    (le_of_eq (add-mul (a * L * P) (a * L) d ∙ ap (λ (z : ℕ). z + a * L * d) (simp (mul_assoc, mul_comm, mul_left_comm)) ∙ ap (λ (z : ℕ). a * d * P * L + z) (mul_right_comm a L d) ∙ sym (add-mul (a * d * P) (a * d) L)))))
    L0

carry_down : (N d G L a c P : ℕ) → 0 < L → N * L ≡ G * d → a * L * P ≤ G * c * P + a * L → a * d * P ≤ N * c * P + a * d
carry_down N d G L a c P L0 e h =
    let k : N * c * P * L ≡ G * c * P * d = across N d G L c P e in
    le_of_mul-le-mul_right
    (le_trans (le_of_eq (simp (mul_assoc, mul_comm, mul_left_comm)))
    (le_trans (mul-le-mul_right d h)
    (le_of_eq (add-mul (G * c * P) (a * L) d ∙ ap (λ (z : ℕ). z + a * L * d) (sym k) ∙ ap (λ (z : ℕ). N * c * P * L + z) (mul_right_comm a L d) ∙ sym (add-mul (N * c * P) (a * d) L)))))
    L0

-- |r - a / c| ≤ a / c / 2 ^ prec, for r the value that a / c is rounded to, multiplied out
pub relative : (f : Format) (s : Bool) (a c : ℕ) → 0 < c → 2 ^ (prec f - 1) * c ≤ a * 2 ^ low f → T (finite (round f false a c))
    → let r = round f s a c in (num r * c * 2 ^ prec f ≤ a * den r * 2 ^ prec f + a * den r) × (a * den r * 2 ^ prec f ≤ num r * c * 2 ^ prec f + a * den r)
relative f s a c C h t =
    let r = round f s a c in
    let e = value_cross r s (grid f a c) (2 ^ low f) (round_value f s a c (round_under f a c t)) in
    let g = grid_relative f a c C h in (
      carry_up (num r) (den r) (grid f a c) (2 ^ low f) a c (2 ^ prec f) (pow_pos (low f)) e g.0,
      carry_down (num r) (den r) (grid f a c) (2 ^ low f) a c (2 ^ prec f) (pow_pos (low f)) e g.1,
    )
