-- The value of a pattern, of a packed one, and the remainder in units of 2 ^ -1074. Assumes nothing.
use mathlib.Core.Path.{◌≡◌, refl, sym, ap, ap₂, ◌∙◌, subst}
use Prim.Native.Nat.{ℕ, zero, suc, ◌+◌, ◌-◌, ◌*◌, ◌%◌, ◌^◌, ◌≤◌, ◌<◌}
use native.Mathlib.Nat.{le_of_eq, lt_of_lt_of_le, mul_assoc, mul_right_comm, mul-pos, eq_of_mul-eq-mul_right, pow-succ'}
use native.Mathlib.Omega.{arith}
use mathlib.Core.Bool.{Bool, true, false, cond}
use borrow.Author.Tests.{leb-true, leb-false, eqb-true, eqb-false}
use lib.Dec.{T, leb, eqb, eqb→eq, eqb-suc-zero}
use lib.Pow.{pow_pos}
use lib.Ieee.{Float, nan, inf, fin, binary64, up, down, odd, fits, rem, of_fields, of_bits}
use lib.Ieee.Fits.{rem-fits}
use lib.Ieee.Exact.{HasValue, odd_sign}
use lib.Ieee.Positive.{num, den, den_pos, first_pos}
use Rattle.ieee.proofs.Range.Round.{value_cross, value_sign, value_finite}
use Rattle.ieee.proofs.Range.Values.{unique, split_pow}
use Rattle.ieee.proofs.Range.Rem.{mod_scale, in_units, rem_exact}
use Rattle.ieee_rem.specs.Internal.{field, digits, place, pack}

-- ---- a finite pattern's value: digits · 2 ^ place units
abbrev pub minus : ℕ → Bool
minus b = leb (2 ^ 63) b

pub read : (b : ℕ) → of_bits binary64 b ≡ of_fields binary64 (minus b) (field b) (b % 2 ^ 52)
unfolding of_bits
read b = refl

fields : (s : Bool) (x t : ℕ) → x < 2047 → HasValue (of_fields binary64 s x t) s (cond (eqb x 0) t (2 ^ 52 + t) * 2 ^ (x - 1)) (2 ^ 1074)
unfolding of_fields
fields s zero t h = odd_sign 53 s t 0 1074
fields s (suc x) t h =
    subst (λ (n : ℕ). HasValue (of_fields binary64 s (suc x) t) s (cond (eqb (suc x) 0) t (2 ^ 52 + t) * 2 ^ n) (2 ^ 1074)) (sym (before x))
    (subst (λ (c : Bool). HasValue (of_fields binary64 s (suc x) t) s (cond c t (2 ^ 52 + t) * 2 ^ x) (2 ^ 1074)) (sym (eqb-suc-zero x))
    (go (eqb (suc x) 2047) (eqb→eq (suc x) 2047)))
  where
    before : (x : ℕ) → suc x - 1 ≡ x
    before x = omega arith

    none : (x : ℕ) → suc x < 2047 → suc x ≡ 2047 → ⊥
    none x h e = omega arith

    go : (b : Bool) → (T b → suc x ≡ 2047) → HasValue (cond b (cond (eqb t 0) (inf s) nan) (odd 53 s (2 ^ 52 + t) x 1074)) s ((2 ^ 52 + t) * 2 ^ x) (2 ^ 1074)
    go true e = absurd (none x h (e tt))
    go false e = odd_sign 53 s (2 ^ 52 + t) x 1074

pub value : (b : ℕ) → b % 2 ^ 63 < 0x7ff0_0000_0000_0000 → HasValue (of_bits binary64 b) (minus b) (digits b * 2 ^ place b) (2 ^ 1074)
value b h = subst (λ (x : Float). HasValue x (minus b) (digits b * 2 ^ place b) (2 ^ 1074)) (sym (read b)) (fields (minus b) (field b) (b % 2 ^ 52) (less b h))
  where
    less : (b : ℕ) → b % 2 ^ 63 < 0x7ff0_0000_0000_0000 → field b < 2047
    less b h = omega arith

-- by the field: without a leading digit, or with one
by_field : (P : ℕ → Type 0) (b : ℕ) → (field b ≡ 0 → P (b % 2 ^ 52)) → ((field b ≡ 0 → ⊥) → P (2 ^ 52 + b % 2 ^ 52)) → P (digits b)
by_field P b f g = go (eqb (field b) 0) refl
  where
    go : (v : Bool) → eqb (field b) 0 ≡ v → P (cond v (b % 2 ^ 52) (2 ^ 52 + b % 2 ^ 52))
    go true e = f (eqb-true (field b) 0 e)
    go false e = g (eqb-false (field b) 0 e)

pub digits_lt : (b : ℕ) → digits b < 2 ^ 53
digits_lt b = by_field (λ (n : ℕ). n < 2 ^ 53) b (λ _. omega arith) (λ _. omega arith)

-- not zero, where the pattern is not a zero's
pub digits_pos : (b : ℕ) → 0 < b % 2 ^ 63 → 0 < digits b
digits_pos b h = by_field (λ (n : ℕ). 0 < n) b (λ e. omega (arith, e)) (λ _. omega arith)

-- with a place above the last there is a leading digit
pub digits_full : (b : ℕ) → 0 < place b → 2 ^ 52 ≤ digits b
digits_full b h = by_field (λ (n : ℕ). 2 ^ 52 ≤ n) b (λ e. omega (arith, e)) (λ _. omega arith)

-- ---- a packed pattern, with a sign in front
pub record Packed (w r j p : ℕ) : Type 0 where
  pub most : p < 0x7ff0_0000_0000_0000
  pub is : digits (w * 2 ^ 63 + p) * 2 ^ place (w * 2 ^ 63 + p) ≡ r * 2 ^ j

flat : (w r : ℕ) → r < 2 ^ 53 → Packed w r 0 r
flat w r h = record { most = omega arith; is = ap₂ (λ (a b : ℕ). a * 2 ^ b) (by_field (λ (n : ℕ). n ≡ r) (w * 2 ^ 63 + r) (λ e. omega (arith, e)) (λ e. omega (arith, e))) (none w r h) }
  where
    none : (w r : ℕ) → r < 2 ^ 53 → place (w * 2 ^ 63 + r) ≡ 0
    none w r h = omega arith

full : (w r j : ℕ) → 2 ^ 52 ≤ r → r < 2 ^ 53 → suc j ≤ 2045 → Packed w r (suc j) (suc j * 2 ^ 52 + r)
full w r j lo hi h = record {
  most = omega arith;
  is = ap₂ (λ (a b : ℕ). a * 2 ^ b) (by_field (λ (n : ℕ). n ≡ r) (w * 2 ^ 63 + (suc j * 2 ^ 52 + r)) (λ e. omega (arith, e)) (λ _. omega arith)) (at w r j lo hi h);
}
  where
    at : (w r j : ℕ) → 2 ^ 52 ≤ r → r < 2 ^ 53 → suc j ≤ 2045 → place (w * 2 ^ 63 + (suc j * 2 ^ 52 + r)) ≡ suc j
    at w r j lo hi h = omega arith

pub packed : (w r j : ℕ) → r < 2 ^ 53 → j ≤ 2045 → Packed w r j (pack r j)
unfolding pack
packed w r zero h g = flat w r h
packed w r (suc j) h g = go (leb (2 ^ 52) r) refl (λ (k : r * 2 < 2 ^ 53). packed w (r * 2) j k (less j g))
  where
    less : (j : ℕ) → suc j ≤ 2045 → j ≤ 2045
    less j g = omega arith

    double : (r : ℕ) → r < 2 ^ 52 → r * 2 < 2 ^ 53
    double r h = omega arith

    go : (b : Bool) → leb (2 ^ 52) r ≡ b → (r * 2 < 2 ^ 53 → Packed w (r * 2) j (pack (r * 2) j)) → Packed w r (suc j) (cond b (suc j * 2 ^ 52 + r) (pack (r * 2) j))
    go true e ih = full w r j (leb-true (2 ^ 52) r e) h g
    go false e ih = let p = ih (double r (leb-false (2 ^ 52) r e)) in record { most = p.most; is = p.is ∙ mul_assoc r 2 (2 ^ j) ∙ ap (λ (n : ℕ). r * n) (sym (pow-succ' 2 j)) }

-- ---- the remainder, in units
rescaled : (x : Float) (s : Bool) (a c b d : ℕ) → 0 < c → a * d ≡ b * c → HasValue x s a c → HasValue x s b d
rescaled nan s a c b d C e h = absurd h
rescaled (inf t) s a c b d C e h = absurd h
rescaled (fin t m e') s a c b d C e h = (h.0, eq_of_mul-eq-mul_right c C (m * up e' * d) (b * down e') (mul_right_comm (m * up e') d c ∙ ap (λ (z : ℕ). z * d) h.1 ∙ mul_right_comm a (down e') d ∙ ap (λ (z : ℕ). z * down e') e ∙ mul_right_comm b c (down e')))

-- x is A units and y is B: a z of A % B units with x's sign is the remainder
pub rem_of : (x y z : Float) (s t : Bool) (A B : ℕ) → T (fits binary64 x) → T (fits binary64 y) → T (fits binary64 z) → 0 < B
    → HasValue x s A (2 ^ 1074) → HasValue y t B (2 ^ 1074) → HasValue z s (A % B) (2 ^ 1074) → z ≡ rem binary64 x y
rem_of x y z s t A B hx hy hz B0 vx vy vz =
    let fx = value_finite x s A (2 ^ 1074) vx in
    let fy = value_finite y t B (2 ^ 1074) vy in
    let cx = value_cross x s A (2 ^ 1074) vx in
    let cy = value_cross y t B (2 ^ 1074) vy in
    let Y0 : 0 < num y = first_pos (num y) (2 ^ 1074) (lt_of_lt_of_le (mul-pos B0 (den_pos y)) (le_of_eq (sym cy))) in
    let N = num x * den y % (num y * den x) in
    let D = mul-pos (den_pos x) (den_pos y) in
    let u : N * 2 ^ 1074 ≡ A % B * (den x * den y) = in_units (num x) (den x) (num y) (den y) (2 ^ 1074) A B (pow_pos 1074) Y0 (den_pos x) (den_pos y) B0 cx cy in
    let v = subst (λ (b : Bool). HasValue (rem binary64 x y) b N (den x * den y)) (value_sign x s A (2 ^ 1074) vx) (rem_exact binary64 x y fx fy hx hy Y0) in
    unique binary64 z (rem binary64 x y) s N (den x * den y) D hz (rem-fits binary64 x y hx)
    (rescaled z s (A % B) (2 ^ 1074) N (den x * den y) (pow_pos 1074) (sym u) vz) v

-- the places' common power taken out
pub less_shift : (a b : ℕ) → 0 < digits b → place b ≤ place a → digits a * 2 ^ place a % (digits b * 2 ^ place b) ≡ digits a * 2 ^ (place a - place b) % digits b * 2 ^ place b
less_shift a b P h =
    ap (λ (z : ℕ). z % (digits b * 2 ^ place b)) (split_pow (digits a) (place b) (place a) h)
    ∙ mod_scale (digits a * 2 ^ (place a - place b)) (digits b) (2 ^ place b) P (pow_pos (place b))
