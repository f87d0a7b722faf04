-- The root of a rounded square: `square_root f (mul f y y)` is y, for a y above zero that the format holds, where y * y neither overflows nor falls below the normal range. Assumes nothing.
use mathlib.Core.Path.{◌≡◌, refl, sym, ap, ◌∙◌, subst}
use mathlib.Core.Logic.{inl, inr}
use Prim.Native.Nat.{ℕ, zero, suc, ◌+◌, ◌-◌, ◌*◌, ◌/◌, ◌^◌, ◌≤◌, ◌<◌, compare, Ordering}
use native.Mathlib.Nat.{le_trans, le_of_eq, le_of_lt, le_antisymm, le_of_suc-le-suc, lt_of_lt_of_le, lt_of_le_of_lt, lt_of_not-le, not-le_of_lt, eq-or-lt_of_le, mul-one, mul_assoc, mul_comm, mul_left_comm, mul_right_comm, mul-le-mul, mul-le-mul_left, mul-le-mul_right, mul-lt-mul_of_pos_right, le_of_mul-le-mul_right, lt_of_mul-lt-mul_right, eq_of_mul-eq-mul_right, mul-pos, div-lt_iff_lt-mul, le-div_iff_mul-le, pow-succ', zero-lt-suc}
use native.Mathlib.Omega.{arith}
use mathlib.Core.Bool.{true, false}
use lib.IntN.{ℤ}
use lib.Dec.{T, lit≤, lt→ltb}
use lib.Pow.{pow-add, pow_pos, pow_mono, pow-lt, shl_lt}
use lib.Ieee.{Float, down, up, fin, Format, binary32, binary64, prec, low, size, nearest, units, round, fits, mul}
use lib.Ieee.Digits.{size-lt, size-le, size_reaches, back}
use lib.Ieee.Fits.{two, two-le_pos}
use Rattle.ieee.proofs.Range.Relative.{Cmp, cmp, near}
use Rattle.ieee.proofs.Range.Values.{Whole, whole, pow_lt_back}
use Rattle.math_root.specs.Root.{mid_square, isqrt, closest_root, square_root}
use Rattle.math_root.proofs.Closest.{isqrt_ge, isqrt_below, closest_root_is}
use Rattle.math_root.proofs.Grid.{root_drop, root_kept, root_grid, round_root_is, round_root_same, root_drop_in, root_grid_exact, kept_le, size_gt}
use Rattle.math_root.proofs.Laws.{square_root_is, units_fits, fits_unique}
use lib.Ieee.Exact.{HasValue, units_val}
use lib.Ieee.Order.{drop, kept}
use lib.Ieee.Scale.{finite, overflow, round_val, round_under}
use lib.Ieee.Positive.{num, den, positive, positive-finite, den_pos, own_value, value→cross, positive_of_value, mul_at}

-- ---- g is the nearest root where n / b is between the squares of g - 1 / 2 and g + 1 / 2

pub closest_root_near : (n b g : ℕ) → 0 < b → mid_square g * b < 4 * n → 4 * n < (2 * g + 3) * (2 * g + 3) * b → closest_root n b ≡ suc g
closest_root_near n b g B lo hi =
    let q = isqrt (n / b) in
    let a : g ≤ q = isqrt_ge (n / b) g ((le-div_iff_mul-le B).1 (down g n b (le_of_lt lo))) in
    let c : q < suc (suc g) = isqrt_below (n / b) (suc (suc g)) ((div-lt_iff_lt-mul B).1 (up g n b hi)) in
    closest_root_is n b ∙ go q a (le_of_suc-le-suc c) (compare (4 * n) (mid_square q * b)) (cmp (4 * n) (mid_square q * b))
  where
    down : (g n b : ℕ) → mid_square g * b ≤ 4 * n → g * g * b ≤ n
    down g n b h = omega arith

    up : (g n b : ℕ) → 4 * n < (2 * g + 3) * (2 * g + 3) * b → n < suc (suc g) * suc (suc g) * b
    up g n b h = omega arith

    pick : (q : ℕ) (o : Ordering) → q ≡ g → Cmp o (4 * n) (mid_square q * b) → nearest q o ≡ suc g
    pick q Ordering.lt e c = absurd (not-le_of_lt (subst (λ (x : ℕ). 4 * n < mid_square x * b) e c) (le_of_lt lo))
    pick q Ordering.eq e c = absurd (not-le_of_lt lo (le_of_eq (subst (λ (x : ℕ). 4 * n ≡ mid_square x * b) e c)))
    pick q Ordering.gt e c = ap suc e

    over : (x : ℕ) → (2 * suc x + 1) * (2 * suc x + 1) * b ≡ (2 * x + 3) * (2 * x + 3) * b
    over x = ap (λ (z : ℕ). z * z * b) (three x)
      where
        three : (x : ℕ) → 2 * suc x + 1 ≡ 2 * x + 3
        three x = omega arith

    pick' : (q : ℕ) (o : Ordering) → q ≡ suc g → Cmp o (4 * n) (mid_square q * b) → nearest q o ≡ suc g
    pick' q Ordering.lt e c = e
    pick' q Ordering.eq e c = absurd (not-le_of_lt hi (le_of_eq (sym (over g) ∙ sym (subst (λ (x : ℕ). 4 * n ≡ mid_square x * b) e c))))
    pick' q Ordering.gt e c = absurd (not-le_of_lt hi (le_of_lt (lt_of_le_of_lt (le_of_eq (sym (over g))) (subst (λ (x : ℕ). mid_square x * b < 4 * n) e c))))

    go : (q : ℕ) → g ≤ q → q ≤ suc g → (o : Ordering) → Cmp o (4 * n) (mid_square q * b) → nearest q o ≡ suc g
    go q a c o k = elim (eq-or-lt_of_le a) [ inl e ↦ pick q o (sym e) k | inr l ↦ pick' q o (le_antisymm c l) k ]

-- ---- the rounded square W of G * 2 ^ k, with E for 4 ^ k and U for the unit that W is rounded to

-- W is within half of U of the square, and U is at most 2 * g * E, where G is g + 1
half_above : (g E U W : ℕ) → 0 < E → 2 * W ≤ 2 * (suc g * suc g * E) + U → U ≤ 2 * g * E → 4 * W < (2 * g + 3) * (2 * g + 3) * E
half_above g E U W v a b = omega arith

half_below : (g E U W : ℕ) → 0 < E → 2 * (suc g * suc g * E) ≤ 2 * W + U → U ≤ 2 * g * E → mid_square g * E < 4 * W
half_below g E U W v a b = omega arith

at_least : (g E W : ℕ) → mid_square g * E < 4 * W → g * g * E ≤ W
at_least g E W h = omega arith

at_most : (g E W : ℕ) → 4 * W < (2 * g + 3) * (2 * g + 3) * E → W < suc (suc g) * suc (suc g) * E
at_most g E W h = omega arith

double : (p : ℕ) → 0 < p → 2 ^ p ≡ 2 * 2 ^ (p - 1)
double p h = ap (λ (x : ℕ). 2 ^ x) (step p h) ∙ pow-succ' 2 (p - 1)
  where
    step : (p : ℕ) → 0 < p → p ≡ suc (p - 1)
    step p h = omega arith

-- the unit is small beside the square of a G of p digits
unit_le : (p u k G : ℕ) → 0 < p → 2 ^ (p - 1) * 2 ^ u ≤ G * G * 2 ^ (k + k) → G < 2 ^ p → 2 ^ u ≤ 2 ^ p * 2 ^ (k + k)
unit_le p u k G P h l =
    let a : 2 ^ (p - 1 + u) < 2 ^ (p + p + (k + k)) =
    lt_of_le_of_lt (le_trans (le_of_eq (pow-add 2 (p - 1) u)) h)
    (lt_of_lt_of_le (mul-lt-mul_of_pos_right (square p G l) (pow_pos (k + k))) (le_of_eq (sym (pow-add 2 (p + p) (k + k) ∙ ap (λ (x : ℕ). x * 2 ^ (k + k)) (pow-add 2 p p))))) in
    le_trans (pow_mono (less p u (k + k) P (pow_lt_back (p - 1 + u) (p + p + (k + k)) a))) (le_of_eq (pow-add 2 p (k + k)))
  where
    square : (p G : ℕ) → G < 2 ^ p → G * G < 2 ^ p * 2 ^ p
    square p G l = lt_of_le_of_lt (mul-le-mul_right G (le_of_lt l)) (lt_of_le_of_lt (le_of_eq (mul_comm (2 ^ p) G)) (mul-lt-mul_of_pos_right l (pow_pos p)))

    less : (p u v : ℕ) → 0 < p → p - 1 + u < p + p + v → u ≤ p + v
    less p u v P h = omega arith

-- with everything in whole numbers: N * L is the square times C, and K * (C * B) is N rounded to a multiple of C * B
module _ (N L G E C K B : ℕ) (pos_C : 0 < C) (same : N * L ≡ G * G * E * C) where
  over : 2 * (K * (C * B)) ≤ 2 * N + C * B → 2 * (K * B * L) ≤ 2 * (G * G * E) + B * L
  over h = le_of_mul-le-mul_right (le_trans (le_of_eq left) (le_trans (mul-le-mul_right L h) (le_of_eq right))) pos_C
    where
      left : 2 * (K * B * L) * C ≡ 2 * (K * (C * B)) * L
      left = omega arith

      right : (2 * N + C * B) * L ≡ (2 * (G * G * E) + B * L) * C
      right = omega arith

  under : 2 * N ≤ 2 * (K * (C * B)) + C * B → 2 * (G * G * E) ≤ 2 * (K * B * L) + B * L
  under h = le_of_mul-le-mul_right (le_trans (le_of_eq left) (le_trans (mul-le-mul_right L h) (le_of_eq right))) pos_C
    where
      left : 2 * (G * G * E) * C ≡ 2 * N * L
      left = omega arith

      right : (2 * (K * (C * B)) + C * B) * L ≡ (2 * (K * B * L) + B * L) * C
      right = omega arith

  unit : (P : ℕ) → P * B * C ≤ N → P * (B * L) ≤ G * G * E
  unit P h = le_of_mul-le-mul_right (le_trans (le_of_eq left) (le_trans (mul-le-mul_right L h) (le_of_eq same))) pos_C
    where
      left : P * (B * L) * C ≡ P * B * C * L
      left = omega arith

times : (a b : ℕ) → 0 < a → b ≤ a * b
times a b h = le_trans (le_of_eq (sym (one b))) (mul-le-mul_right b h)
  where
    one : (b : ℕ) → 1 * b ≡ b
    one b = omega arith

-- ---- the root of the rounded square is G * 2 ^ k again

square_of_power : (k : ℕ) → 2 ^ (k + k) ≡ 2 ^ k * 2 ^ k
square_of_power k = pow-add 2 k k

-- where G is above 2 ^ (p - 1)
inner : (p D l k g K C N : ℕ) → 0 < p → 0 < C → N * 2 ^ l ≡ suc g * suc g * 2 ^ (k + k) * C
    → 2 * (K * (C * 2 ^ D)) ≤ 2 * N + C * 2 ^ D → 2 * N ≤ 2 * (K * (C * 2 ^ D)) + C * 2 ^ D
    → 2 ^ (p - 1) * 2 ^ D * C ≤ N → 2 ^ (p - 1) ≤ g → suc g < 2 ^ p
    → root_grid p (K * 2 ^ D * 2 ^ l * 2 ^ l) (2 ^ l) ≡ suc g * 2 ^ k
inner p D l k g K C N P pos_C e up down least lo hi =
    let B = 2 ^ D in
    let L = 2 ^ l in
    let E = 2 ^ (k + k) in
    let Q = 2 ^ k in
    let W = K * B * L in
    let a = over N L (suc g) E C K B pos_C e up in
    let b = under N L (suc g) E C K B pos_C e down in
    let c : 2 ^ (p - 1) * 2 ^ (D + l) ≤ suc g * suc g * E = subst (λ (x : ℕ). 2 ^ (p - 1) * x ≤ suc g * suc g * E) (sym (pow-add 2 D l)) (unit N L (suc g) E C K B pos_C e (2 ^ (p - 1)) least) in
    let u : B * L ≤ 2 * g * E = le_trans (le_of_eq (sym (pow-add 2 D l))) (le_trans (unit_le p (D + l) k (suc g) P c hi) (mul-le-mul_right E (le_trans (le_of_eq (double p P)) (mul-le-mul_left 2 lo)))) in
    let x : 4 * W < (2 * g + 3) * (2 * g + 3) * E = half_above g E (B * L) W (pow_pos (k + k)) a u in
    let y : mid_square g * E < 4 * W = half_below g E (B * L) W (pow_pos (k + k)) b u in
    let f : E * L ≡ L * Q * Q = ap (λ (z : ℕ). z * L) (square_of_power k) ∙ mul_comm (Q * Q) L ∙ sym (mul_assoc L Q Q) in
    let n = W * L in
    let nearby : closest_root n (L * Q * Q) ≡ suc g =
    closest_root_near n (L * Q * Q) g (mul-pos (mul-pos (pow_pos l) (pow_pos k)) (pow_pos k))
    (lt_of_le_of_lt (le_of_eq (ap (λ (z : ℕ). mid_square g * z) (sym f) ∙ sym (mul_assoc (mid_square g) E L))) (lt_of_lt_of_le (mul-lt-mul_of_pos_right y (pow_pos l)) (le_of_eq (mul_assoc 4 W L))))
    (lt_of_le_of_lt (le_of_eq (sym (mul_assoc 4 W L))) (lt_of_lt_of_le (mul-lt-mul_of_pos_right x (pow_pos l)) (le_of_eq (mul_assoc ((2 * g + 3) * (2 * g + 3)) E L ∙ ap (λ (z : ℕ). (2 * g + 3) * (2 * g + 3) * z) f)))) in
    let d : root_drop p n L ≡ k =
    root_drop_in p n L k P (pow_pos l)
    (mul-le-mul_right L (le_trans (le_of_eq (pair (2 ^ (p - 1)) Q ∙ ap (λ (z : ℕ). 2 ^ (p - 1) * 2 ^ (p - 1) * z) (sym (square_of_power k)))) (le_trans (mul-le-mul_right E (mul-le-mul lo lo)) (at_least g E W y))))
    (mul-lt-mul_of_pos_right (lt_of_lt_of_le (at_most g E W x) (le_trans (mul-le-mul_right E (mul-le-mul hi hi)) (le_of_eq (ap (λ (z : ℕ). 2 ^ p * 2 ^ p * z) (square_of_power k) ∙ sym (pair (2 ^ p) Q))))) (pow_pos l)) in
    ap (λ (z : ℕ). closest_root n (L * 2 ^ z * 2 ^ z) * 2 ^ z) d ∙ ap (λ (z : ℕ). z * Q) nearby
  where
    pair : (a K : ℕ) → a * K * (a * K) ≡ a * a * (K * K)
    pair a K = simp (mul_assoc, mul_left_comm)

same_multiple : (K M U : ℕ) → 0 < U → 2 * (K * U) ≤ 2 * (M * U) + U → 2 * (M * U) ≤ 2 * (K * U) + U → K ≡ M
same_multiple K M U u a b = le_antisymm (half K M (le_of_mul-le-mul_right (le_trans (le_of_eq (mul_assoc 2 K U)) (le_trans a (le_of_eq (out M U)))) u)) (half M K (le_of_mul-le-mul_right (le_trans (le_of_eq (mul_assoc 2 M U)) (le_trans b (le_of_eq (out K U)))) u))
  where
    half : (K M : ℕ) → 2 * K ≤ 2 * M + 1 → K ≤ M
    half K M h = omega arith

    out : (M U : ℕ) → 2 * (M * U) + U ≡ (2 * M + 1) * U
    out M U = omega arith

-- where G is 2 ^ (p - 1): then the square is a power of two, and is not rounded
edge : (p D l k K C N : ℕ) → 0 < p → 0 < C → N * 2 ^ l ≡ 2 ^ (p - 1) * 2 ^ (p - 1) * 2 ^ (k + k) * C
    → 2 * (K * (C * 2 ^ D)) ≤ 2 * N + C * 2 ^ D → 2 * N ≤ 2 * (K * (C * 2 ^ D)) + C * 2 ^ D
    → 2 ^ (p - 1) * 2 ^ D * C ≤ N
    → root_grid p (K * 2 ^ D * 2 ^ l * 2 ^ l) (2 ^ l) ≡ 2 ^ (p - 1) * 2 ^ k
edge p D l k K C N P pos_C e up down least =
    let B = 2 ^ D in
    let L = 2 ^ l in
    let E = 2 ^ (k + k) in
    let G = 2 ^ (p - 1) in
    let t = p - 1 + (p - 1) + (k + k) in
    let s : G * G * E ≡ 2 ^ t = sym (pow-add 2 (p - 1 + (p - 1)) (k + k) ∙ ap (λ (x : ℕ). x * E) (pow-add 2 (p - 1) (p - 1))) in
    let c : 2 ^ (D + l) ≤ 2 ^ t = le_trans (le_of_eq (pow-add 2 D l)) (le_trans (times G (B * L) (pow_pos (p - 1))) (le_trans (unit N L G E C K B pos_C e G least) (le_of_eq s))) in
    let m : D + l ≤ t = le_of_suc-le-suc (lt_of_not-le (λ (g : suc t ≤ D + l). not-le_of_lt (pow-lt g) c)) in
    let M = 2 ^ (t - (D + l)) in
    let f : G * G * E ≡ M * (B * L) = s ∙ ap (λ (x : ℕ). 2 ^ x) (sym (back t (D + l) m)) ∙ pow-add 2 (t - (D + l)) (D + l) ∙ ap (λ (x : ℕ). M * x) (pow-add 2 D l) in
    let w : K * B * L ≡ K * (B * L) = mul_assoc K B L in
    let x : K ≡ M =
    same_multiple K M (B * L) (mul-pos (pow_pos D) (pow_pos l))
    (le_trans (le_of_eq (ap (λ (z : ℕ). 2 * z) (sym w))) (le_trans (over N L G E C K B pos_C e up) (le_of_eq (ap (λ (z : ℕ). 2 * z + B * L) f))))
    (le_trans (le_of_eq (ap (λ (z : ℕ). 2 * z) (sym f))) (le_trans (under N L G E C K B pos_C e down) (le_of_eq (ap (λ (z : ℕ). 2 * z + B * L) w)))) in
    root_grid_exact p (K * B * L * L) L G k (pow_pos l) (pow-lt (less p P))
    (ap (λ (z : ℕ). z * L) (w ∙ ap (λ (z : ℕ). z * (B * L)) x ∙ sym f ∙ ap (λ (z : ℕ). G * G * z) (square_of_power k) ∙ sym (pair G (2 ^ k))))
  where
    less : (p : ℕ) → 0 < p → p - 1 < p
    less p h = omega arith

    pair : (a K : ℕ) → a * K * (a * K) ≡ a * a * (K * K)
    pair a K = simp (mul_assoc, mul_left_comm)

-- for any G of p digits
square_back : (p D l k G K C N : ℕ) → 0 < p → 0 < C → N * 2 ^ l ≡ G * G * 2 ^ (k + k) * C
    → 2 * (K * (C * 2 ^ D)) ≤ 2 * N + C * 2 ^ D → 2 * N ≤ 2 * (K * (C * 2 ^ D)) + C * 2 ^ D
    → 2 ^ (p - 1) * 2 ^ D * C ≤ N → 2 ^ (p - 1) ≤ G → G < 2 ^ p
    → root_grid p (K * 2 ^ D * 2 ^ l * 2 ^ l) (2 ^ l) ≡ G * 2 ^ k
square_back p D l k zero K C N P pos_C e up down least lo hi = absurd (not-le_of_lt (pow_pos (p - 1)) lo)
square_back p D l k (suc g) K C N P pos_C e up down least lo hi = elim (eq-or-lt_of_le lo) [
  | inl q ↦
      subst (λ (x : ℕ). root_grid p (K * 2 ^ D * 2 ^ l * 2 ^ l) (2 ^ l) ≡ x * 2 ^ k) q
      (edge p D l k K C N P pos_C (e ∙ ap (λ (x : ℕ). x * x * 2 ^ (k + k) * C) (sym q)) up down least)
  | inr s ↦ inner p D l k g K C N P pos_C e up down least (le_of_suc-le-suc s) hi
]

-- ---- the law

-- the smallest value's exponent is no less than the digits
deep : (f : Format) → prec f - 1 + (prec f - 1) ≤ prec f - 1 + low f
deep binary32 = lit≤ tt
deep binary64 = lit≤ tt

-- a y in units of the smallest value has prec digits, where y * y is in the normal range
long : (p l D g C N : ℕ) → 0 < C → p - 1 + (p - 1) ≤ p - 1 + l → N * 2 ^ l ≡ g * g * 1 * C → 2 ^ (p - 1) * 2 ^ D * C ≤ N → 2 ^ (p - 1) ≤ g
long p l D g C N pos_C h e least =
    let a : 2 ^ (p - 1) * (2 ^ D * 2 ^ l) ≤ g * g * 1 = unit N (2 ^ l) g 1 C 0 (2 ^ D) pos_C e (2 ^ (p - 1)) least in
    let b : 2 ^ (p - 1) * 2 ^ (p - 1) ≤ g * g =
    le_trans (le_of_eq (sym (pow-add 2 (p - 1) (p - 1))))
    (le_trans (pow_mono h)
    (le_trans (le_of_eq (pow-add 2 (p - 1) l))
    (le_trans (mul-le-mul_left (2 ^ (p - 1)) (times (2 ^ D) (2 ^ l) (pow_pos D)))
    (le_trans a (le_of_eq (mul-one (g * g))))))) in
    le_of_suc-le-suc (lt_of_not-le (λ (s : suc g ≤ 2 ^ (p - 1)). not-le_of_lt (less g (2 ^ (p - 1)) s) b))
  where
    less : (g a : ℕ) → suc g ≤ a → g * g < a * a
    less g a s = lt_of_lt_of_le (square_lt g) (mul-le-mul s s)
      where
        square_lt : (g : ℕ) → g * g < suc g * suc g
        square_lt g = omega arith

-- y = q * 2 ^ j as G * 2 ^ k, with G of p digits
record Digits (p q j : ℕ) : Type 0 where
  field_G : ℕ
  field_k : ℕ
  same : field_G * 2 ^ field_k ≡ q * 2 ^ j
  least : 2 ^ (p - 1) ≤ field_G
  below : field_G < 2 ^ p

digits : (p q j : ℕ) → 0 < p → q < 2 ^ p → 2 ^ (p - 1) ≤ q * 2 ^ j → Digits p q j
digits p q j P few long =
    let g = q * 2 ^ j in
    let k = size g - p in
    let z : p ≤ size g = all p (size g) P (size_gt g (p - 1) long) in
    let k_le : k ≤ j = spare (size g) p j (size-le g (p + j) (shl_lt p j few)) in
    let G = q * 2 ^ (j - k) in
    let e : G * 2 ^ k ≡ g = mul_assoc q (2 ^ (j - k)) (2 ^ k) ∙ ap (λ (x : ℕ). q * x) (sym (pow-add 2 (j - k) k) ∙ ap (λ (x : ℕ). 2 ^ x) (back j k k_le)) in
    record {
      field_G = G;
      field_k = k;
      same = e;
      least = le_of_mul-le-mul_right (le_trans (le_of_eq (sym (pow-add 2 (p - 1) k))) (le_trans (size_reaches g (p - 1 + k) (top (size g) p P z)) (le_of_eq (sym e)))) (pow_pos k);
      below = lt_of_mul-lt-mul_right (2 ^ k) (lt_of_le_of_lt (le_of_eq e) (lt_of_lt_of_le (size-lt g) (le_trans (pow_mono (cover (size g) p)) (le_of_eq (pow-add 2 p k)))));
    }
  where
    all : (p z : ℕ) → 0 < p → p - 1 < z → p ≤ z
    all p z P h = omega arith

    spare : (z p l : ℕ) → z ≤ p + l → z - p ≤ l
    spare z p l h = omega arith

    top : (z p : ℕ) → 0 < p → p ≤ z → p - 1 + (z - p) < z
    top z p P h = omega arith

    cover : (z p : ℕ) → z ≤ p + (z - p)
    cover z p = omega arith

kept_pos : (K B n : ℕ) → 0 < B → B ≤ n → 2 * n ≤ 2 * (K * B) + B → 0 < K
kept_pos zero B n b h k = absurd (none B n b h k)
  where
    none : (B n : ℕ) → 0 < B → B ≤ n → 2 * n ≤ 2 * (0 * B) + B → ⊥
    none B n b h k = omega arith
kept_pos (suc K) B n b h k = zero-lt-suc K

-- all of the above together: the root of the rounded square of q * 2 ^ j units is q * 2 ^ j units
module _ (p l D K C N q j : ℕ) (pos-p : 0 < p) (pos_C : 0 < C) (deep-enough : p - 1 + (p - 1) ≤ p - 1 + l) (same : N * 2 ^ l ≡ q * 2 ^ j * (q * 2 ^ j) * C)
    (above : 2 * (K * (C * 2 ^ D)) ≤ 2 * N + C * 2 ^ D) (below : 2 * N ≤ 2 * (K * (C * 2 ^ D)) + C * 2 ^ D) (least : 2 ^ (p - 1) * 2 ^ D * C ≤ N) (few : q < 2 ^ p) where
  g_long : 2 ^ (p - 1) ≤ q * 2 ^ j
  g_long = long p l D (q * 2 ^ j) C N pos_C deep-enough (same ∙ ap (λ (x : ℕ). x * C) (sym (mul-one (q * 2 ^ j * (q * 2 ^ j))))) least

  root_back : (d : Digits p q j) → root_grid p (K * 2 ^ D * 2 ^ l * 2 ^ l) (2 ^ l) ≡ q * 2 ^ j
  root_back d =
      let G = d.field_G in
      let k = d.field_k in
      let e : N * 2 ^ l ≡ G * G * 2 ^ (k + k) * C = same ∙ ap (λ (x : ℕ). x * C) (ap (λ (x : ℕ). x * x) (sym d.same) ∙ pair G (2 ^ k) ∙ ap (λ (x : ℕ). G * G * x) (sym (square_of_power k))) in
      square_back p D l k G K C N pos-p pos_C e above below least d.least d.below ∙ d.same
    where
      pair : (a K : ℕ) → a * K * (a * K) ≡ a * a * (K * K)
      pair a K = simp (mul_assoc, mul_left_comm)

  grid_back : root_grid p (K * 2 ^ D * 2 ^ l * 2 ^ l) (2 ^ l) ≡ q * 2 ^ j
  grid_back = root_back (digits p q j pos-p few g_long)

  square_pos : 0 < K * 2 ^ D
  square_pos =
      mul-pos
      (kept_pos K (C * 2 ^ D) N (mul-pos pos_C (pow_pos D)) (le_trans (times (2 ^ (p - 1)) (C * 2 ^ D) (pow_pos (p - 1))) (le_trans (le_of_eq (turn (2 ^ (p - 1)) C (2 ^ D))) least)) below)
      (pow_pos D)
    where
      turn : (a c d : ℕ) → a * (c * d) ≡ a * d * c
      turn a c d = simp (mul_assoc, mul_comm)

-- a value z of W units has the root y, if the root of W units is y
root_is_value : (f : Format) (y z : Float) (W : ℕ) → T (fits f y) → T (positive y) → (v : Whole f y) → 0 < v.m * 2 ^ v.j → HasValue z false W (2 ^ low f) → 0 < W
    → root_grid (prec f) (W * 2 ^ low f * 2 ^ low f) (2 ^ low f) ≡ v.m * 2 ^ v.j → square_root f z ≡ y
root_is_value f y z W h pos v g-pos val W_pos root =
    let L = 2 ^ low f in
    let g = v.m * 2 ^ v.j in
    let q = root_kept (prec f) (W * L * L) L in
    let k = root_drop (prec f) (W * L * L) L in
    let r = units f false q k in
    let r_val : HasValue r false g L = subst (λ (x : ℕ). HasValue r false x L) root (units_val f false q k (subst (λ (x : ℕ). x < overflow f) (sym root) v.under)) in
    square_root_is f z (positive_of_value z W L val W_pos)
    ∙ round_root_same f (num z) (den z) W L (den_pos z) (pow_pos (low f)) (value→cross z W L val)
    ∙ round_root_is f W L
    ∙ fits_unique f r y (units_fits f false q k (kept_le (prec f) (W * L * L) L (pow_pos (low f)))) h (positive_of_value r g L r_val g-pos) pos
    (eq_of_mul-eq-mul_right L (pow_pos (low f)) (num r * den y) (num y * den r)
    (mul_right_comm (num r) (den y) L ∙ ap (λ (x : ℕ). x * den y) (value→cross r g L r_val) ∙ mul_right_comm g (den r) (den y) ∙ ap (λ (x : ℕ). x * den r) (sym v.is) ∙ mul_right_comm (num y) L (den r)))

pub square_root_of_square : (f : Format) (y : Float) → T (fits f y) → T (positive y) → prec f ≤ size (num y * num y * 2 ^ low f / (den y * den y)) → T (finite (mul f y y)) → square_root f (mul f y y) ≡ y
square_root_of_square f y h pos normal fine =
    let p = prec f in
    let P : 0 < p = two-le_pos p (two f) in
    let l = low f in
    let m = num y in
    let c = den y in
    let C = c * c in
    let pos_C : 0 < C = mul-pos (den_pos y) (den_pos y) in
    let N = m * m * 2 ^ l in
    let D = drop p N C in
    let K = kept p N C in
    let v = whole f y (positive-finite y pos) h in
    let q = v.m in
    let j = v.j in
    let e : N * 2 ^ l ≡ q * 2 ^ j * (q * 2 ^ j) * C = pairs m (2 ^ l) ∙ ap (λ (x : ℕ). x * x) v.is ∙ pair (q * 2 ^ j) c in
    let halves = near N (C * 2 ^ D) (mul-pos pos_C (pow_pos D)) in
    let least : 2 ^ (p - 1) * 2 ^ D * C ≤ N = le_trans (le_of_eq (ap (λ (x : ℕ). x * C) (sym (pow-add 2 (p - 1) D)))) ((le-div_iff_mul-le pos_C).0 (size_reaches (N / C) (p - 1 + D) (top (size (N / C)) p P normal))) in
    let is_mul : mul f y y ≡ round f false (m * m) C = mul_at f y y m c m c pos pos (den_pos y) (den_pos y) (own_value y pos) (own_value y pos) in
    let z_val : HasValue (mul f y y) false (K * 2 ^ D) (2 ^ l) =
    subst (λ (z : Float). HasValue z false (K * 2 ^ D) (2 ^ l)) (sym is_mul) (round_val f (m * m) C (round_under f (m * m) C (subst (λ (z : Float). T (finite z)) is_mul fine))) in
    root_is_value f y (mul f y y) (K * 2 ^ D) h pos v
    (lt_of_lt_of_le (pow_pos (p - 1)) (g_long p l D K C N q j P pos_C (deep f) e halves.0 halves.1 least v.few))
    z_val
    (square_pos p l D K C N q j P pos_C (deep f) e halves.0 halves.1 least v.few)
    (grid_back p l D K C N q j P pos_C (deep f) e halves.0 halves.1 least v.few)
  where
    pairs : (a l : ℕ) → a * a * l * l ≡ a * l * (a * l)
    pairs a l = simp (mul_assoc, mul_left_comm)

    pair : (a K : ℕ) → a * K * (a * K) ≡ a * a * (K * K)
    pair a K = simp (mul_assoc, mul_left_comm)

    top : (z p : ℕ) → 0 < p → p ≤ z → p - 1 + (z - p) < z
    top z p P h = omega arith

-- for a y below zero the root is -y
square_of_negative : (f : Format) (m : ℕ) (e : ℤ) → mul f (fin true m e) (fin true m e) ≡ mul f (fin false m e) (fin false m e)
unfolding mul
square_of_negative f m e = refl

drop_sign : (f : Format) (m : ℕ) (e : ℤ) → T (fits f (fin true m e)) → T (fits f (fin false m e))
unfolding fits
drop_sign f zero e h = h
drop_sign f (suc m) e h = h

pub square_root_of_square_negative : (f : Format) (m : ℕ) (e : ℤ) → T (fits f (fin true (suc m) e)) → prec f ≤ size (suc m * up e * (suc m * up e) * 2 ^ low f / (down e * down e)) → T (finite (mul f (fin true (suc m) e) (fin true (suc m) e)))
    → square_root f (mul f (fin true (suc m) e) (fin true (suc m) e)) ≡ fin false (suc m) e
square_root_of_square_negative f m e h normal fine =
    ap (square_root f) (square_of_negative f (suc m) e)
    ∙ square_root_of_square f (fin false (suc m) e) (drop_sign f (suc m) e h) (lt→ltb 0 (suc m) (zero-lt-suc m)) normal (subst (λ (z : Float). T (finite z)) (square_of_negative f (suc m) e) fine)
