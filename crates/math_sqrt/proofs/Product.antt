-- What the test of a guess shows. The float product of the guess with itself is near the number, so the difference of the number and the guess's square is known once it is known modulo 2 ^ 64.
-- Assumes nothing.
use Rattle.std.proofs.Common.{◌≡◌, ℕ, zero, suc, ◌+◌, ◌-◌, ◌*◌, ◌/◌, ◌%◌, ◌^◌, ◌<◌, ◌≤◌, false, not, T, sym, refl, ap, ◌∙◌, subst, le_trans, le_of_eq, mul-le-mul_right, mul_assoc, mul_comm, mul-le-mul, mul-pos, mul_right_comm, le_of_mul-le-mul_right, mul_left_comm, arith, lit<, lit≤, pow_pos, pow-add}
use native.Mathlib.Nat.{eq_of_mul-eq-mul_right}
use lib.Ieee.{Float, nan, inf, fin, binary64, low, up, down, mul, round, is_nan, to_bits, of_bits}
use lib.Ieee.Bits.{of_bits-to_bits}
use lib.Ieee.Fits.{mul-fits}
use lib.Ieee.Exact.{HasValue}
use lib.Ieee.Positive.{num, den, den_pos, mul_at, value→cross, positive_of_value, positive-finite}
use lib.Ieee.Scale.{finite}
use Rattle.ieee.specs.Rounding.{OnePart}
use Rattle.ieee.proofs.Rounding.{rounding}
use Rattle.ieee.proofs.Range.Round.{round_clear}
use Rattle.math_root.specs.Root.{closest_root}
use Rattle.math_sqrt.specs.Steps.{radicand, NearestBits, Close}
use Rattle.math_sqrt.proofs.Patterns.{normal}
use Rattle.math_root.proofs.Closest.{closest_root_at}
use Rattle.math_sqrt.proofs.Cases.{clear_no_nan}

-- ---- the digits of a pattern, and the float that they make

abbrev pub digits : ℕ → ℕ
digits b = b % 2 ^ 52 + 2 ^ 52

-- a fraction with both parts divided by d
shorten : (x : Float) (a c d : ℕ) → 0 < d → HasValue x false (a * d) (c * d) → HasValue x false a c
shorten nan a c d D v = v
shorten (inf t) a c d D v = v
shorten (fin t m e) a c d D v = (v.0, eq_of_mul-eq-mul_right d D (m * up e * c) (a * down e) (mul_assoc (m * up e) c d ∙ v.1 ∙ mul_right_comm a d (down e)))

pub fraction : (b f u : ℕ) → b / 2 ^ 52 ≡ suc f → f < 2046 → u + f ≡ 1074 → HasValue (of_bits binary64 b) false (digits b) (2 ^ u)
fraction b f u e l s =
    shorten (of_bits binary64 b) (digits b) (2 ^ u) (2 ^ f) (pow_pos f)
    (subst (λ (c : ℕ). HasValue (of_bits binary64 b) false (digits b * 2 ^ f) c) (sym (ap (λ (k : ℕ). 2 ^ k) s) ∙ pow-add 2 u f)
    (subst (λ (a : ℕ). HasValue (of_bits binary64 b) false a (2 ^ low binary64)) (ap (λ (k : ℕ). (2 ^ 52 + b % 2 ^ 52) * 2 ^ k) (less b f e) ∙ ap (λ (d : ℕ). d * 2 ^ f) (turned b))
    (normal b (least b f e) (most b f e l))))
  where
    less : (b f : ℕ) → b / 2 ^ 52 ≡ suc f → b / 2 ^ 52 - 1 ≡ f
    less b f e = omega arith

    turned : (b : ℕ) → 2 ^ 52 + b % 2 ^ 52 ≡ b % 2 ^ 52 + 2 ^ 52
    turned b = omega arith

    least : (b f : ℕ) → b / 2 ^ 52 ≡ suc f → 2 ^ 52 ≤ b
    least b f e = omega arith

    most : (b f : ℕ) → b / 2 ^ 52 ≡ suc f → f < 2046 → b < 0x7ff0_0000_0000_0000
    most b f e l = omega arith

-- ---- the product's digits are near the square

pub record Near (d u q : ℕ) : Type 0 where
  pub above : d * u ≤ q + 2 ^ 53
  pub below : q ≤ d * u + 2 ^ 53

-- the fraction N / D is d / u, and it is q / (u * u) but for one part in 2 ^ 53 of that
near_of : (N D d u q : ℕ) → 0 < D → N * u ≡ d * D → q ≤ 2 ^ 53 * 2 ^ 53 → N * (u * u) * 2 ^ 53 ≤ q * D * 2 ^ 53 + q * D → q * D * 2 ^ 53 ≤ N * (u * u) * 2 ^ 53 + q * D → Near d u q
near_of N D d u q p e l h k =
    let x : N * (u * u) * 2 ^ 53 ≡ d * u * 2 ^ 53 * D = ap (λ (z : ℕ). z * 2 ^ 53) (sym (mul_assoc N u u) ∙ ap (λ (z : ℕ). z * u) e) ∙ turn d D u in
    record {
      above = cut (d * u) q q (2 ^ 53) (lit< tt) l (le_of_mul-le-mul_right (more (d * u * 2 ^ 53 * D) q D (subst (λ (z : ℕ). z ≤ q * D * 2 ^ 53 + q * D) x h)) p);
      below = cut q (d * u) q (2 ^ 53) (lit< tt) l (le_of_mul-le-mul_right (less q D (d * u * 2 ^ 53) (subst (λ (z : ℕ). q * D * 2 ^ 53 ≤ z + q * D) x k)) p);
    }
  where
    turn : (d D u : ℕ) → d * D * u * 2 ^ 53 ≡ d * u * 2 ^ 53 * D
    turn d D u = simp (mul_assoc, mul_comm, mul_left_comm)

    more : (x q D : ℕ) → x ≤ q * D * 2 ^ 53 + q * D → x ≤ (q * 2 ^ 53 + q) * D
    more x q D h = omega arith

    less : (q D x : ℕ) → q * D * 2 ^ 53 ≤ x * D + q * D → q * 2 ^ 53 * D ≤ (x + q) * D
    less q D x h = omega arith

    cut : (a b q K : ℕ) → 0 < K → q ≤ K * K → a * K ≤ b * K + q → a ≤ b + K
    cut a b q K p l h = le_of_mul-le-mul_right (le_trans h (step b q K l)) p
      where
        step : (b q K : ℕ) → q ≤ K * K → b * K + q ≤ (b + K) * K
        step b q K l = omega arith

-- the pattern of the product of a float with itself
abbrev pub squared : ℕ → ℕ
squared r = to_bits binary64 (mul binary64 (of_bits binary64 r) (of_bits binary64 r))

pub product : (r f u : ℕ) → r / 2 ^ 52 ≡ suc f → f < 2046 → u + f ≡ 1074 → 2 ^ 52 * (2 ^ u * 2 ^ u) ≤ 2 ^ 52 * 2 ^ 52 * 2 ^ low binary64 → squared r / 2 ^ 52 ≡ suc f → Near (digits (squared r)) (2 ^ u) (digits r * digits r)
product r f u e l s z k =
    let n = of_bits binary64 r in
    let q = digits r in
    let P = mul binary64 n n in
    let v = fraction r f u e l s in
    let w : HasValue P false (digits (squared r)) (2 ^ u) = subst (λ (x : Float). HasValue x false (digits (squared r)) (2 ^ u)) (of_bits-to_bits binary64 P (mul-fits binary64 n n)) (fraction (squared r) f u k l s) in
    let pos = positive_of_value n q (2 ^ u) v (some r) in
    let is : P ≡ round binary64 false (q * q) (2 ^ u * 2 ^ u) = mul_at binary64 n n q (2 ^ u) q (2 ^ u) pos pos (pow_pos u) (pow_pos u) v v in
    let fine : T (finite P) = positive-finite P (positive_of_value P (digits (squared r)) (2 ^ u) w (some (squared r))) in
    let o : OnePart binary64 (q * q) (2 ^ u * 2 ^ u) P =
    subst (λ (x : Float). OnePart binary64 (q * q) (2 ^ u * 2 ^ u) x) (sym is)
    ((rounding binary64).normal false (q * q) (2 ^ u * 2 ^ u) (mul-pos (pow_pos u) (pow_pos u)) (le_trans z (mul-le-mul_right (2 ^ low binary64) (mul-le-mul (least r) (least r)))) (subst (λ (x : Float). T (finite x)) is fine)) in
    near_of (num P) (den P) (digits (squared r)) (2 ^ u) (q * q) (den_pos P) (value→cross P (digits (squared r)) (2 ^ u) w) (mul-le-mul (most r) (most r)) o.0 o.1
  where
    some : (b : ℕ) → 0 < digits b
    some b = omega arith

    least : (b : ℕ) → 2 ^ 52 ≤ digits b
    least b = omega arith

    most : (b : ℕ) → digits b ≤ 2 ^ 53
    most b = omega arith

-- ---- the test

-- o and y are R - p and one less, modulo 2 ^ 64
decided : (R p q o y : ℕ) → q < 2 ^ 53 → R ≤ p + 2 ^ 63 + 2 ^ 54 → p ≤ R + 2 ^ 63 + 2 ^ 54 → (o + p % 2 ^ 64) % 2 ^ 64 ≡ R % 2 ^ 64 → (y + 1) % 2 ^ 64 ≡ o → y < 2 * q → (p < R) × (R ≤ p + 2 * q)
decided R p q o y l a b f g h = omega arith

-- x, the product in the same units, is near both
bounds : (R p q x U : ℕ) → x ≤ p + q + 2 ^ 53 → p + q ≤ x + 2 ^ 53 → x ≤ R + 1023 * U → R ≤ x + 1023 * U → U ≤ 2 ^ 53 → q < 2 ^ 53 → (R ≤ p + 2 ^ 63 + 2 ^ 54) × (p ≤ R + 2 ^ 63 + 2 ^ 54)
bounds R p q x U a b c d e f = (omega arith, omega arith)

tested_at : (g r o y f u s : ℕ) → g / 2 ^ 52 ≡ suc f → f < 2046 → u + f ≡ 1074 → 2 ^ 52 * (2 ^ u * 2 ^ u) ≤ 2 ^ 52 * 2 ^ 52 * 2 ^ low binary64 → 2 ^ u ≡ s * 2 ^ 52 → s ≤ 2 → r / 2 ^ 52 ≡ g / 2 ^ 52 → Close (squared r) g
    → (o + digits r * (digits r - 1) % 2 ^ 64) % 2 ^ 64 ≡ digits g * s * 2 ^ 52 % 2 ^ 64 → (y + 1) % 2 ^ 64 ≡ o → y < 2 * digits r → closest_root (digits g * s * 2 ^ 52) 1 ≡ digits r
tested_at g r o y f u s e l j z U t h k a b c =
    let q = digits r in
    let p = q * (q - 1) in
    let R = digits g * s * 2 ^ 52 in
    let x = digits (squared r) in
    let R' : R ≡ digits g * 2 ^ u = mul_assoc (digits g) s (2 ^ 52) ∙ ap (λ (w : ℕ). digits g * w) (sym U) in
    let v = product r f u (h ∙ e) l j z (k.field ∙ e) in
    let w = bounds R p q (x * 2 ^ u) (2 ^ u) (subst (λ (n : ℕ). x * 2 ^ u ≤ n + 2 ^ 53) (square r) v.above) (subst (λ (n : ℕ). n ≤ x * 2 ^ u + 2 ^ 53) (square r) v.below) (subst (λ (n : ℕ). x * 2 ^ u ≤ n + 1023 * 2 ^ u) (sym R') (spread x (digits g) (2 ^ u) (close (squared r) g k.above))) (subst (λ (n : ℕ). n ≤ x * 2 ^ u + 1023 * 2 ^ u) (sym R') (spread (digits g) x (2 ^ u) (close g (squared r) k.below))) (subst (λ (n : ℕ). n ≤ 2 ^ 53) (sym U) (mul-le-mul_right (2 ^ 52) t)) (below r) in
    let d = decided R p q o y (below r) w.0 w.1 a b c in
    closest_root_at R q (subst (λ (n : ℕ). n < R + q) (sym (square r)) (more p R q d.0)) (subst (λ (n : ℕ). R ≤ n + q) (sym (square r)) (most p R q d.1))
  where
    below : (b : ℕ) → digits b < 2 ^ 53
    below b = omega arith

    square : (b : ℕ) → digits b * digits b ≡ digits b * (digits b - 1) + digits b
    square b = subst (λ (q : ℕ). q * q ≡ q * (digits b - 1) + q) (sym (pred b)) (poly (digits b - 1))
      where
        pred : (b : ℕ) → digits b ≡ suc (digits b - 1)
        pred b = omega arith

        poly : (k : ℕ) → suc k * suc k ≡ suc k * k + suc k
        poly k = omega arith

    close : (a b : ℕ) → a % 2 ^ 52 ≤ b % 2 ^ 52 + 1023 → digits a ≤ digits b + 1023
    close a b h = omega arith

    spread : (x d U : ℕ) → x ≤ d + 1023 → x * U ≤ d * U + 1023 * U
    spread x d U h = le_trans (mul-le-mul_right U h) (le_of_eq (over d U))
      where
        over : (d U : ℕ) → (d + 1023) * U ≡ d * U + 1023 * U
        over d U = omega arith

    more : (p R q : ℕ) → p < R → p + q < R + q
    more p R q h = omega arith

    most : (p R q : ℕ) → R ≤ p + 2 * q → R ≤ p + q + q
    most p R q h = omega arith

-- at either field
pub tested : (g r o y : ℕ) → 0x3fe0_0000_0000_0000 ≤ g → g < 0x4000_0000_0000_0000 → r / 2 ^ 52 ≡ g / 2 ^ 52 → Close (squared r) g
    → (o + digits r * (digits r - 1) % 2 ^ 64) % 2 ^ 64 ≡ radicand g % 2 ^ 64 → (y + 1) % 2 ^ 64 ≡ o → y < 2 * digits r → NearestBits g r
tested g r o y lo hi h k a b c = record { field = h; root = go (g / 2 ^ 52 - 1022) (is g lo) (small g hi) }
  where
    is : (g : ℕ) → 0x3fe0_0000_0000_0000 ≤ g → g / 2 ^ 52 ≡ suc (1021 + (g / 2 ^ 52 - 1022))
    is g l = omega arith

    small : (g : ℕ) → g < 0x4000_0000_0000_0000 → g / 2 ^ 52 - 1022 < 2
    small g l = omega arith

    two : (f : ℕ) → f ≡ 1022 → 2 ^ 53 ≡ (2 - f % 2) * 2 ^ 52
    two f e = omega arith

    one : (f : ℕ) → f ≡ 1023 → 2 ^ 52 ≡ (2 - f % 2) * 2 ^ 52
    one f e = omega arith

    most : (f : ℕ) → 2 - f % 2 ≤ 2
    most f = omega arith

    none : (t : ℕ) → suc (suc t) < 2 → ⊥
    none t l = omega arith

    go : (t : ℕ) → g / 2 ^ 52 ≡ suc (1021 + t) → t < 2 → closest_root (radicand g) 1 ≡ digits r
    go zero e l = tested_at g r o y 1021 53 (2 - g / 2 ^ 52 % 2) e (lit< tt) refl (lit≤ tt) (two (g / 2 ^ 52) e) (most (g / 2 ^ 52)) h k a b c
    go (suc zero) e l = tested_at g r o y 1022 52 (2 - g / 2 ^ 52 % 2) e (lit< tt) refl (lit≤ tt) (one (g / 2 ^ 52) e) (most (g / 2 ^ 52)) h k a b c
    go (suc (suc t)) e l = absurd (none t l)

-- the product is no NaN
pub product_no_nan : (r : ℕ) → 2 ^ 52 ≤ r → r < 0x4000_0000_0000_0000 → T (not (is_nan (mul binary64 (of_bits binary64 r) (of_bits binary64 r))))
product_no_nan r lo hi =
    let n = of_bits binary64 r in
    let u = 1075 - r / 2 ^ 52 in
    let v = fraction r (r / 2 ^ 52 - 1) u (is r lo) (less r hi) (joined r lo hi) in
    let pos = positive_of_value n (digits r) (2 ^ u) v (some r) in
    subst (λ (x : Float). T (not (is_nan x))) (sym (mul_at binary64 n n (digits r) (2 ^ u) (digits r) (2 ^ u) pos pos (pow_pos u) (pow_pos u) v v))
    (clear_no_nan (round binary64 false (digits r * digits r) (2 ^ u * 2 ^ u)) (round_clear binary64 (digits r * digits r) (2 ^ u * 2 ^ u)))
  where
    is : (r : ℕ) → 2 ^ 52 ≤ r → r / 2 ^ 52 ≡ suc (r / 2 ^ 52 - 1)
    is r l = omega arith

    less : (r : ℕ) → r < 0x4000_0000_0000_0000 → r / 2 ^ 52 - 1 < 2046
    less r h = omega arith

    joined : (r : ℕ) → 2 ^ 52 ≤ r → r < 0x4000_0000_0000_0000 → 1075 - r / 2 ^ 52 + (r / 2 ^ 52 - 1) ≡ 1074
    joined r l h = omega arith

    some : (b : ℕ) → 0 < digits b
    some b = omega arith
