-- The square root keeps ranges (`sqrt_in`), and the root of a rounded square is the number's size (`sqrt_square`), away from the ends of the range. Assumes nothing.
use mathlib.Core.Path.{◌≡◌, refl, sym, ap, ◌∙◌, subst}
use Prim.Native.Nat.{ℕ, zero, suc, ◌*◌, ◌/◌, ◌^◌, ◌≤◌, ◌<◌}
use native.Mathlib.Nat.{le_trans, le_of_eq, one-mul, lt_of_lt_of_le, zero-lt-suc, mul-mul-mul_comm, mul_left_comm, mul-le-mul, mul-le-mul_left, mul-pos}
use native.Mathlib.Omega.{arith}
use mathlib.Core.Bool.{true, false, ◌&&◌}
use lib.Dec.{T, leb, leb→le, lt→ltb, lit≤}
use lib.IntN.{ℤ}
use lib.Pow.{pow_pos}
use lib.Ieee.{Float, nan, inf, fin, binary64, prec, low, up, down, size, round, le, fits}
use lib.Ieee.Exact.{HasValue}
use lib.Ieee.Fits.{and_l, and_r, round-fits, down_pos}
use lib.Ieee.Scale.{finite, normal_of_fraction}
use lib.Ieee.Positive.{num, den, positive, den_pos, through, first_pos, value_pos, own_value, positive_of_value}
use Rattle.ieee.specs.Operators.{◌⊗◌}
use Rattle.ieee.specs.Functions.{abs}
use Rattle.ieee.specs.Range.{plus, clear, In, Mag, Size, Pow, holds}
use Rattle.ieee.proofs.Range.Round.{rep_value, round_clear, units_clear, to_plus, below_finite, le_cross, value_cross, value_finite}
use Rattle.ieee.proofs.Range.Laws.{zero_under, rep_small, in_size, in_up}
use Rattle.ieee.proofs.Range.Powers.{to_pow, mul_pow}
use Rattle.math_root.specs.Root.{square_root, sqrt}
use Rattle.math_root.specs.RootLaw.{roots, RootLaw}
use Rattle.math_root.proofs.Grid.{root_drop, root_kept, round_root_is}
use Rattle.math_root.proofs.Laws.{square_root_is, square_root_ge, square_root_le}
use Rattle.math_root.proofs.Square.{square_root_of_square, square_root_of_square_negative}

-- ---- the root of a number above zero has a clear sign
root_clear : (x : Float) → T (positive x) → T (clear (sqrt x))
root_clear x p =
    let n = num x * 2 ^ low binary64 * 2 ^ low binary64 in
    subst (λ (z : Float). T (clear z)) (sym (square_root_is binary64 x p ∙ round_root_is binary64 (num x) (den x)))
    (units_clear binary64 (root_kept (prec binary64) n (den x)) (root_drop (prec binary64) n (den x)))

-- ---- a bound b / 2 ^ k, as the f64 c
square_of : (n d b K : ℕ) → n * K ≡ b * d → n * n * (K * K) ≡ b * b * (d * d)
square_of n d b K e = mul-mul-mul_comm n n K K ∙ ap (λ (z : ℕ). z * z) e ∙ mul-mul-mul_comm b d b d

module _ (b k : ℕ) (h : T (holds b k)) where
  c : Float
  c = round binary64 false b (2 ^ k)

  c_value : HasValue c false b (2 ^ k)
  unfolding c
  c_value = rep_value binary64 false b k (rep_small b k h)

  c_cross : num c * 2 ^ k ≡ b * den c
  c_cross = value_cross c false b (2 ^ k) c_value

  c_square : num c * num c * (2 ^ k * 2 ^ k) ≡ b * b * (den c * den c)
  c_square = square_of (num c) (den c) b (2 ^ k) c_cross

  c_fits : T (fits binary64 c)
  unfolding c
  c_fits = round-fits binary64 false b (2 ^ k)

  c_clear : T (clear c)
  unfolding c
  c_clear = round_clear binary64 b (2 ^ k)

  c_positive : 0 < b → T (positive c)
  c_positive B = positive_of_value c b (2 ^ k) c_value B

-- ---- the two bounds, for an x above zero
module _ (x : Float) (P : T (positive x)) where
  upper : (q l : ℕ) → T (holds q l) → 0 < q → num x * (2 ^ l * 2 ^ l) ≤ q * q * den x → T (finite (sqrt x)) × (num (sqrt x) * 2 ^ l ≤ q * den (sqrt x))
  upper q l h Q m =
      let hi = c q l h in
      let r = sqrt x in
      let s : T (le r hi) = square_root_le binary64 hi x (c_fits q l h) (c_positive q l h Q) P
      (through (num x) (q * q) (num hi * num hi) (den x) (2 ^ l * 2 ^ l) (den hi * den hi) (mul-pos (pow_pos l) (pow_pos l)) m (le_of_eq (sym (c_square q l h)))) in
      let f = below_finite r hi false q (2 ^ l) (root_clear x P) (c_value q l h) s in
      (f, through (num r) (num hi) q (den r) (den hi) (2 ^ l) (den_pos hi) (le_cross r hi (root_clear x P) (c_clear q l h) f (value_finite hi false q (2 ^ l) (c_value q l h)) s) (le_of_eq (c_cross q l h)))

  lower : (b k : ℕ) → T (holds b k) → b * b * den x ≤ num x * (2 ^ k * 2 ^ k) → T (finite (sqrt x)) → b * den (sqrt x) ≤ num (sqrt x) * 2 ^ k
  lower zero k h m f = zero_under (den (sqrt x)) (num (sqrt x) * 2 ^ k)
  lower (suc b) k h m f =
      let lo = c (suc b) k h in
      let r = sqrt x in
      let s : T (le lo r) =
      square_root_ge binary64 lo x (c_fits (suc b) k h) (c_positive (suc b) k h (zero-lt-suc b)) P
      (through (num lo * num lo) (suc b * suc b) (num x) (den lo * den lo) (2 ^ k * 2 ^ k) (den x) (mul-pos (pow_pos k) (pow_pos k)) (le_of_eq (c_square (suc b) k h)) m) in
      through (suc b) (num lo) (num r) (2 ^ k) (den lo) (den r) (den_pos lo) (le_of_eq (sym (c_cross (suc b) k h)))
      (le_cross lo r (c_clear (suc b) k h) (root_clear x P) (value_finite lo false (suc b) (2 ^ k) (c_value (suc b) k h)) f s)

-- where a / 2 ^ i is no more than zero, b is 0
no_foot : (a b d u I K : ℕ) → 0 < d → 0 < I → a * d ≤ 0 * u * I → b * b * I ≤ a * (K * K) → b ≡ 0
no_foot a zero d u I K D P h g = refl
no_foot a (suc b) d u I K D P h g = absurd (never (a * d) u I (mul-pos (first_pos a (K * K) (lt_of_lt_of_le (mul-pos (mul-pos (zero-lt-suc b) (zero-lt-suc b)) P) g)) D) h)
  where
    never : (n u I : ℕ) → 0 < n → n ≤ 0 * u * I → ⊥
    never n u I h g = omega arith

-- ---- a / 2 ^ i ≤ x ≤ p / 2 ^ j, so b / 2 ^ k ≤ √x ≤ q / 2 ^ l
module _ (a i p j b k q l : ℕ) (t : T (roots a i p j b k q l)) where
  foot_le : b * b * 2 ^ i ≤ a * (2 ^ k * 2 ^ k)
  foot_le = leb→le (b * b * 2 ^ i) (a * (2 ^ k * 2 ^ k)) (and_l (leb (b * b * 2 ^ i) (a * (2 ^ k * 2 ^ k))) (leb (p * (2 ^ l * 2 ^ l)) (q * q * 2 ^ j) && (holds b k && holds q l)) t)

  rest : T (leb (p * (2 ^ l * 2 ^ l)) (q * q * 2 ^ j) && (holds b k && holds q l))
  rest = and_r (leb (b * b * 2 ^ i) (a * (2 ^ k * 2 ^ k))) (leb (p * (2 ^ l * 2 ^ l)) (q * q * 2 ^ j) && (holds b k && holds q l)) t

  top_le : p * (2 ^ l * 2 ^ l) ≤ q * q * 2 ^ j
  top_le = leb→le (p * (2 ^ l * 2 ^ l)) (q * q * 2 ^ j) (and_l (leb (p * (2 ^ l * 2 ^ l)) (q * q * 2 ^ j)) (holds b k && holds q l) rest)

  held : T (holds b k && holds q l)
  held = and_r (leb (p * (2 ^ l * 2 ^ l)) (q * q * 2 ^ j)) (holds b k && holds q l) rest

  -- an x above zero
  at_positive : (x : Float) → T (positive x) → a * den x ≤ num x * 2 ^ i → num x * 2 ^ j ≤ p * den x → In b k q l (sqrt x)
  at_positive x P lo hi =
      let m : num x * (2 ^ l * 2 ^ l) ≤ q * q * den x = through (num x) p (q * q) (den x) (2 ^ j) (2 ^ l * 2 ^ l) (pow_pos j) hi top_le in
      let Q : 0 < q = first_pos q q (first_pos (q * q) (den x) (lt_of_lt_of_le (mul-pos (value_pos x (num x) (den x) P (den_pos x) (own_value x P)) (mul-pos (pow_pos l) (pow_pos l))) m)) in
      let u = upper x P q l (and_r (holds b k) (holds q l) held) Q m in
      record {
        sign = to_plus (sqrt x) (root_clear x P) u.0;
        least = lower x P b k (and_l (holds b k) (holds q l) held) (through (b * b) a (num x) (2 ^ k * 2 ^ k) (2 ^ i) (den x) (pow_pos i) foot_le lo) u.0;
        most = u.1;
      }

  -- a zero: a is 0, and so is b
  at_zero : (e : ℤ) → a * down e ≤ 0 * up e * 2 ^ i → In b k q l (fin false 0 e)
  at_zero e h = record {
    sign = tt;
    least = subst (λ (z : ℕ). z * down e ≤ 0 * up e * 2 ^ k) (sym (no_foot a b (down e) (up e) (2 ^ i) (2 ^ k) (down_pos e) (pow_pos i) h foot_le)) (zero_under (down e) (0 * up e * 2 ^ k));
    most = none (up e) (2 ^ l) (q * down e);
  }
    where
      none : (u L n : ℕ) → 0 * u * L ≤ n
      none u L n = omega arith

  root_range : (x : Float) → T (plus x) → a * den x ≤ num x * 2 ^ i → num x * 2 ^ j ≤ p * den x → In b k q l (sqrt x)
  unfolding square_root
  root_range nan s lo hi = absurd s
  root_range (inf t) s lo hi = absurd s
  root_range (fin true m e) s lo hi = absurd s
  root_range (fin false zero e) s lo hi = at_zero e lo
  root_range (fin false (suc m) e) s lo hi = at_positive (fin false (suc m) e) (lt→ltb 0 (suc m) (zero-lt-suc m)) lo hi

pub sqrt_in : {a i p j b k q l : ℕ} {x : Float} → In a i p j x → T (roots a i p j b k q l) → In b k q l (sqrt x)
sqrt_in {a} {i} {p} {j} {b} {k} {q} {l} {x} h t = root_range a i p j b k q l t x h.sign h.least h.most

-- ---- the root of a square, as rounded: for a size of 2 ^ -511 to 2 ^ 511
in_normal : (n d A B C : ℕ) → 1 * d ≤ n * A → B * (A * A) ≤ C → B * (d * d) ≤ n * n * C
in_normal n d A B C h g =
    le_trans (mul-le-mul_left B (le_trans (mul-le-mul (le_trans (le_of_eq (sym (one-mul d))) h) (le_trans (le_of_eq (sym (one-mul d))) h)) (le_of_eq (mul-mul-mul_comm n A n A))))
    (le_trans (le_of_eq (mul_left_comm B (n * n) (A * A))) (mul-le-mul_left (n * n) g))

square_normal : (x : Float) → Size 1 511 (2 ^ 511) 0 x → prec binary64 ≤ size (num x * num x * 2 ^ low binary64 / (den x * den x))
square_normal x s =
    normal_of_fraction binary64 (num x * num x) (den x * den x) (mul-pos (den_pos x) (den_pos x))
    (in_normal (num x) (den x) (2 ^ 511) (2 ^ 52) (2 ^ 1074) s.least (lit≤ {m = 2 ^ 52 * (2 ^ 511 * 2 ^ 511)} {n = 2 ^ 1074} tt))

square_finite : (x : Float) → Size 1 511 (2 ^ 511) 0 x → T (finite (x ⊗ x))
square_finite x s =
    let m : Mag (2 ^ 511) 0 x = record { fine = s.fine; most = s.most } in
    let p : Pow 511 x = to_pow 511 m tt in
    (mul_pow p p (lit≤ tt)).fine

pub sqrt_square : (x : Float) → T (fits binary64 x) → Size 1 511 (2 ^ 511) 0 x → sqrt (x ⊗ x) ≡ abs x
unfolding abs
sqrt_square nan h s = absurd s.fine
sqrt_square (inf t) h s = absurd s.fine
sqrt_square (fin t zero e) h s = absurd (never (down e) (up e) (2 ^ 511) (down_pos e) s.least)
  where
    never : (d u I : ℕ) → 0 < d → 1 * d ≤ 0 * u * I → ⊥
    never d u I h g = omega arith
sqrt_square (fin false (suc m) e) h s = let x = fin false (suc m) e in square_root_of_square binary64 x h (lt→ltb 0 (suc m) (zero-lt-suc m)) (square_normal x s) (square_finite x s)
sqrt_square (fin true (suc m) e) h s = let x = fin true (suc m) e in square_root_of_square_negative binary64 m e h (square_normal x s) (square_finite x s)

-- an x whose sign is clear
abs_plus : (x : Float) → T (plus x) → abs x ≡ x
unfolding abs
abs_plus nan p = absurd p
abs_plus (inf s) p = absurd p
abs_plus (fin true m e) p = absurd p
abs_plus (fin false m e) p = refl

pub sqrt_law : RootLaw sqrt
sqrt_law = record { root_in = sqrt_in; root_sq = λ {x} h f. sqrt_square x f (in_size (in_up h tt)) ∙ abs_plus x h.sign }
