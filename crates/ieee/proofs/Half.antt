-- Rounding is off by half of the last place at most: by 2 ^ -(i + 1) for a fraction below 2 ^ (53 - i). For every fraction, subnormal and zero included. Assumes nothing.
use mathlib.Core.Path.{◌≡◌, refl, sym, ap, ap₂, ◌∙◌, subst}
use Prim.Native.Nat.{ℕ, ◌+◌, ◌-◌, ◌*◌, ◌/◌, ◌^◌, ◌≤◌, ◌<◌}
use native.Mathlib.Nat.{le_trans, le_of_eq, lt_of_lt_of_le, mul_comm, mul_assoc, mul_left_comm, mul_right_comm, mul-le-mul, mul-le-mul_right, mul-lt-mul_of_pos_right, le_of_mul-le-mul_right, mul-pos, add-mul, div-lt_iff_lt-mul}
use native.Mathlib.Omega.{arith}
use mathlib.Core.Bool.{Bool, false}
use lib.Dec.{T}
use lib.Pow.{pow-add, pow_pos, pow_mono}
use lib.Ieee.{Float, Format, binary64, prec, low, size, round}
use lib.Ieee.Digits.{size-le}
use lib.Ieee.Nearest.{closest}
use lib.Ieee.Order.{drop}
use lib.Ieee.Scale.{finite, grid, round_under}
use lib.Ieee.Positive.{num, den}
use Rattle.ieee.proofs.Range.Round.{value_cross, round_value}
use Rattle.ieee.proofs.Range.Relative.{near}

short : (z p e : ℕ) → z ≤ p + e → z - p ≤ e
short z p e h = omega arith

-- in the format's units
pub half_units : (f : Format) (s : Bool) (a c e : ℕ) → 0 < c → a * 2 ^ low f < 2 ^ (prec f + e) * c → T (finite (round f false a c))
    → let r = round f s a c in (2 * (num r * 2 ^ low f * c) ≤ 2 * (a * 2 ^ low f * den r) + c * 2 ^ e * den r) × (2 * (a * 2 ^ low f * den r) ≤ 2 * (num r * 2 ^ low f * c) + c * 2 ^ e * den r)
half_units f s a c e C h t =
    let r = round f s a c in
    let n = a * 2 ^ low f in
    let k = drop (prec f) n c in
    let u = c * 2 ^ k in
    let g = closest n u in
    let l : k ≤ e = short (size (n / c)) (prec f) e (size-le (n / c) (prec f + e) ((div-lt_iff_lt-mul C).1 h)) in
    let m : u ≤ c * 2 ^ e = mul-le-mul (le_of_eq refl) (pow_mono l) in
    let q = near n u (mul-pos C (pow_pos k)) in
    let v : num r * 2 ^ low f * c ≡ g * u * den r =
    ap (λ (z : ℕ). z * c) (value_cross r s (grid f a c) (2 ^ low f) (round_value f s a c (round_under f a c t))) ∙ regroup g (2 ^ k) (den r) c in (
      le_trans (le_of_eq (ap (λ (z : ℕ). 2 * z) v)) (up (g * u) n u (c * 2 ^ e) (den r) q.0 m),
      le_trans (down (g * u) n u (c * 2 ^ e) (den r) q.1 m) (le_of_eq (ap (λ (z : ℕ). 2 * z + c * 2 ^ e * den r) (sym v))),
    )
  where
    regroup : (g p d c : ℕ) → g * p * d * c ≡ g * (c * p) * d
    regroup g p d c = simp (mul_assoc, mul_comm)

    up : (g n u m d : ℕ) → 2 * g ≤ 2 * n + u → u ≤ m → 2 * (g * d) ≤ 2 * (n * d) + m * d
    up g n u m d a b = let x = mul-le-mul_right d a in let y = mul-le-mul_right d b in omega (arith, x, y)

    down : (g n u m d : ℕ) → 2 * n ≤ 2 * g + u → u ≤ m → 2 * (n * d) ≤ 2 * (g * d) + m * d
    down g n u m d a b = let x = mul-le-mul_right d a in let y = mul-le-mul_right d b in omega (arith, x, y)

-- |r - a / c| ≤ 2 ^ -(i + 1), multiplied out
pub record Half (i a c : ℕ) (r : Float) : Type 0 where
  pub most : 2 * (num r * c * 2 ^ i) ≤ 2 * (a * den r * 2 ^ i) + c * den r
  pub least : 2 * (a * den r * 2 ^ i) ≤ 2 * (num r * c * 2 ^ i) + c * den r

pub half : (s : Bool) (a c i e : ℕ) → i + e ≡ 1074 → 0 < c → a * 2 ^ i < 2 ^ 53 * c → T (finite (round binary64 false a c)) → Half i a c (round binary64 s a c)
half s a c i e k C h t =
    let r = round binary64 s a c in
    let p : 2 ^ 1074 ≡ 2 ^ i * 2 ^ e = ap (λ (n : ℕ). 2 ^ n) (sym k) ∙ pow-add 2 i e in
    let g : a * 2 ^ 1074 < 2 ^ (53 + e) * c =
    subst (λ (n : ℕ). a * n < 2 ^ (53 + e) * c) (sym p)
    (subst (λ (n : ℕ). n < 2 ^ (53 + e) * c) (mul_assoc a (2 ^ i) (2 ^ e))
    (lt_of_lt_of_le (mul-lt-mul_of_pos_right h (pow_pos e)) (le_of_eq (mul_right_comm (2 ^ 53) c (2 ^ e) ∙ ap (λ (n : ℕ). n * c) (sym (pow-add 2 53 e)))))) in
    let q = half_units binary64 s a c e C g t in
    record {
      most = off (num r) (den r) a c (2 ^ i) (2 ^ e) (pow_pos e) (subst (λ (n : ℕ). 2 * (num r * n * c) ≤ 2 * (a * n * den r) + c * 2 ^ e * den r) p q.0);
      least = off' (num r) (den r) a c (2 ^ i) (2 ^ e) (pow_pos e) (subst (λ (n : ℕ). 2 * (a * n * den r) ≤ 2 * (num r * n * c) + c * 2 ^ e * den r) p q.1);
    }
  where
    turn : (x y P E : ℕ) → 2 * (x * (P * E) * y) ≡ 2 * (x * y * P) * E
    turn x y P E = simp (mul_assoc, mul_comm, mul_left_comm)

    off : (N d a c P E : ℕ) → 0 < E → 2 * (N * (P * E) * c) ≤ 2 * (a * (P * E) * d) + c * E * d → 2 * (N * c * P) ≤ 2 * (a * d * P) + c * d
    off N d a c P E E0 h =
        le_of_mul-le-mul_right
        (le_trans (le_of_eq (sym (turn N c P E)))
        (le_trans h (le_of_eq (ap₂ ◌+◌ (turn a d P E) (mul_right_comm c E d) ∙ sym (add-mul (2 * (a * d * P)) (c * d) E)))))
        E0

    off' : (N d a c P E : ℕ) → 0 < E → 2 * (a * (P * E) * d) ≤ 2 * (N * (P * E) * c) + c * E * d → 2 * (a * d * P) ≤ 2 * (N * c * P) + c * d
    off' N d a c P E E0 h =
        le_of_mul-le-mul_right
        (le_trans (le_of_eq (sym (turn a d P E)))
        (le_trans h (le_of_eq (ap₂ ◌+◌ (turn N c P E) (mul_right_comm c E d) ∙ sym (add-mul (2 * (N * c * P)) (c * d) E)))))
        E0
