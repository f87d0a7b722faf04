-- Adding and subtracting 1.5 · 2 ^ 52 finds the whole number nearest to q, ties to even, with a zero as +0, for every finite q up to 2 ^ 50 in size. Assumes nothing.
use mathlib.Core.Path.{◌≡◌, refl, sym, ap, ◌∙◌, subst}
use Prim.Native.Nat.{ℕ, zero, suc, ◌+◌, ◌-◌, ◌*◌, ◌/◌, ◌%◌, ◌^◌, ◌≤◌, ◌<◌, compare}
use native.Mathlib.Nat.{le_trans, le_of_eq, le_of_lt, lt_of_lt_of_le, lt_of_le_of_lt, lt_of_not-le, not-le_of_lt, mul-one, mul_comm, mul_assoc, mul_right_comm, mul-le-mul_right, mul-lt-mul_of_pos_right, eq_of_mul-eq-mul_right, mul-sub, le-div_iff_mul-le, div-lt_iff_lt-mul}
use native.Mathlib.Omega.{arith}
use mathlib.Core.Bool.{Bool, true, false, not, ◌&&◌, beq, cond}
use lib.Dec.{T, ltb, ltb→lt, nltb→le, lit≤}
use lib.Pow.{pow-add, pow_pos, pow_mono, pow-lt}
use lib.IntN.{pos, negsuc}
use lib.Ieee.{Float, nan, inf, fin, Format, binary64, prec, low, size, round, sum, of_int, of_bits}
use lib.Ieee.Digits.{size-lt, size-le}
use lib.Ieee.Fits.{nearest-le}
use lib.Ieee.Nearest.{closest, closest_same}
use lib.Ieee.Order.{drop}
use lib.Ieee.Scale.{finite, grid, round_same}
use lib.Ieee.Positive.{num, den, den_pos}
use Rattle.ieee.specs.Operators.{◌⊕◌, ◌⊖◌}
use Rattle.ieee.specs.Range.{sgn, plus}
use Rattle.ieee.proofs.Range.Round.{round_value, value_cross, value_sign, value_finite}
use Rattle.ieee.proofs.Range.Laws.{add_is}
use Rattle.ieee.proofs.Range.Sums.{sub_sum}
use Rattle.whole_f64.specs.Whole.{signed}
use Rattle.whole_nearest.specs.Nearest.{nearest_size, nearest_whole}
use Rattle.whole_nearest.proofs.Laws.{nearest_is, closest_moved, closest_taken}

-- ---- a fraction whose whole part has all the digits of the format is rounded to a whole number, the nearest
size_gt : (n j : ℕ) → 2 ^ j ≤ n → j < size n
size_gt n j h = lt_of_not-le (λ (g : size n ≤ j). not-le_of_lt (lt_of_lt_of_le (size-lt n) (pow_mono g)) h)

all_dropped : (p l z : ℕ) → 0 < p → p - 1 + l < z → z ≤ p + l → z - p ≡ l
all_dropped p l z P a b = omega arith

pub drop_whole : (p l N d : ℕ) → 0 < p → 0 < d → 2 ^ (p - 1) * d ≤ N → N < 2 ^ p * d → drop p (N * 2 ^ l) d ≡ l
drop_whole p l N d P D lo hi =
    all_dropped p l (size (N * 2 ^ l / d)) P
    (size_gt (N * 2 ^ l / d) (p - 1 + l) ((le-div_iff_mul-le D).1 (le_trans (le_of_eq (ap (λ (x : ℕ). x * d) (pow-add 2 (p - 1) l) ∙ mul_right_comm (2 ^ (p - 1)) (2 ^ l) d)) (mul-le-mul_right (2 ^ l) lo))))
    (size-le (N * 2 ^ l / d) (p + l) ((div-lt_iff_lt-mul D).1 (lt_of_lt_of_le (mul-lt-mul_of_pos_right hi (pow_pos l)) (le_of_eq (mul_right_comm (2 ^ p) d (2 ^ l) ∙ ap (λ (x : ℕ). x * d) (sym (pow-add 2 p l)))))))

grid_whole : (f : Format) (N d : ℕ) → 0 < prec f → 0 < d → 2 ^ (prec f - 1) * d ≤ N → N < 2 ^ prec f * d → grid f N d ≡ closest N d * 2 ^ low f
grid_whole f N d P D lo hi =
    ap (λ (k : ℕ). closest (N * 2 ^ low f) (d * 2 ^ k) * 2 ^ k) (drop_whole (prec f) (low f) N d P D lo hi)
    ∙ ap (λ (x : ℕ). x * 2 ^ low f) (closest_same (N * 2 ^ low f) (d * 2 ^ low f) N d (pos_mul (low f)) D (mul_right_comm N (2 ^ low f) d ∙ mul_assoc N d (2 ^ low f)))
  where
    pos_mul : (l : ℕ) → 0 < d * 2 ^ l
    pos_mul l = lt_of_le_of_lt (le_of_eq (sym (zero_times (2 ^ l)))) (mul-lt-mul_of_pos_right D (pow_pos l))
      where
        zero_times : (x : ℕ) → 0 * x ≡ 0
        zero_times x = omega arith

whole_under : (N d : ℕ) → 0 < d → N < 2 ^ 53 * d → closest N d * 2 ^ 1074 < 2 ^ (1074 + 1024)
whole_under N d D hi =
    lt_of_le_of_lt (mul-le-mul_right (2 ^ 1074) (le_trans (nearest-le (N / d) (compare (N % d * 2) d)) ((div-lt_iff_lt-mul D).1 hi)))
    (lt_of_le_of_lt (le_of_eq (sym (pow-add 2 53 1074))) (pow-lt (lit≤ {m = suc (53 + 1074)} {n = 1074 + 1024} tt)))

pub round_whole : (s : Bool) (N d : ℕ) → 0 < d → 2 ^ 52 * d ≤ N → N < 2 ^ 53 * d → let r = round binary64 s N d in T (finite r) × (sgn r ≡ s) × (num r ≡ closest N d * den r)
round_whole s N d D lo hi =
    let r = round binary64 s N d in
    let e = grid_whole binary64 N d (lit≤ {m = 1} {n = 53} tt) D lo hi in
    let v = round_value binary64 s N d (subst (λ (g : ℕ). g < 2 ^ (1074 + 1024)) (sym e) (whole_under N d D hi)) in (
      value_finite r s (grid binary64 N d) (2 ^ 1074) v,
      value_sign r s (grid binary64 N d) (2 ^ 1074) v,
      off (num r) (den r) (closest N d) (2 ^ 1074) (pow_pos 1074) (value_cross r s (grid binary64 N d) (2 ^ 1074) v ∙ ap (λ (g : ℕ). g * den r) e),
    )
  where
    off : (n d c l : ℕ) → 0 < l → n * l ≡ c * l * d → n ≡ c * d
    off n d c l L e = eq_of_mul-eq-mul_right l L n (c * d) (e ∙ mul_right_comm c l d)

-- ---- sums of unlike signs
pub sum_over : (a b c : ℕ) → b ≤ a → sum binary64 false a true b c ≡ round binary64 false (a - b) c
unfolding sum
sum_over a b c h = go (ltb a b) (ltb→lt a b)
  where
    go : (t : Bool) → (T t → a < b) → cond t (round binary64 true (b - a) c) (round binary64 false (a - b) c) ≡ round binary64 false (a - b) c
    go true k = absurd (not-le_of_lt (k tt) h)
    go false k = refl

pub sum_under : (s : Bool) (a b c : ℕ) → a < b → sum binary64 s a (not s) b c ≡ round binary64 (not s) (b - a) c
unfolding sum
sum_under s a b c h = go s (ltb a b) (nltb→le a b) (ltb b a)
  where
    go : (s t : Bool) → (T (not t) → b ≤ a) → (u : Bool) → cond (beq s (not s)) (round binary64 s (a + b) c) (cond t (round binary64 (not s) (b - a) c) (round binary64 (s && u) (a - b) c)) ≡ round binary64 (not s) (b - a) c
    go true true k u = refl
    go true false k u = absurd (not-le_of_lt h (k tt))
    go false true k u = refl
    go false false k u = absurd (not-le_of_lt h (k tt))

pub sum_both : (s : Bool) (a b c : ℕ) → sum binary64 s a s b c ≡ round binary64 s (a + b) c
unfolding sum
sum_both true a b c = refl
sum_both false a b c = refl

-- ---- the shift
-- 1.5 · 2 ^ 52
abbrev pub shift : Float
shift = of_bits binary64 0x4338_0000_0000_0000

-- the code's way
abbrev pub by_shift : Float → Float
by_shift q = (q ⊕ shift) ⊖ shift

abbrev C : ℕ
C = 6755399441055744

shift_num : num shift ≡ C
unfolding of_bits
shift_num = refl

shift_den : den shift ≡ 1
unfolding of_bits
shift_den = refl

shift_plus : T (plus shift)
unfolding of_bits
shift_plus = tt

shift_finite : T (finite shift)
unfolding of_bits
shift_finite = tt

shift_sgn : sgn shift ≡ false
unfolding of_bits
shift_sgn = refl

-- the first sum, as one fraction
sum_at : (q : Float) → T (finite q) → q ⊕ shift ≡ sum binary64 (sgn q) (num q) false (C * den q) (den q)
sum_at q f =
    add_is q shift f shift_finite
    ∙ ap (λ (e : ℕ). sum binary64 (sgn q) (num q * e) (sgn shift) (num shift * den q) (den q * e)) shift_den
    ∙ ap (λ (x : ℕ). sum binary64 (sgn q) x (sgn shift) (num shift * den q) (den q * 1)) (mul-one (num q))
    ∙ ap (λ (x : ℕ). sum binary64 (sgn q) (num q) (sgn shift) (num shift * den q) x) (mul-one (den q))
    ∙ ap (λ (s : Bool). sum binary64 (sgn q) (num q) s (num shift * den q) (den q)) shift_sgn
    ∙ ap (λ (x : ℕ). sum binary64 (sgn q) (num q) false (x * den q) (den q)) shift_num

-- the second, of a float u that is a whole number w
back_at : (u : Float) (w : ℕ) → T (plus u) → num u ≡ w * den u → u ⊖ shift ≡ sum binary64 false (w * den u) true (C * den u) (den u)
back_at u w p e =
    sub_sum u shift p shift_plus
    ∙ ap (λ (x : ℕ). sum binary64 false (num u * x) true (num shift * den u) (den u * x)) shift_den
    ∙ ap (λ (x : ℕ). sum binary64 false x true (num shift * den u) (den u * 1)) (mul-one (num u) ∙ e)
    ∙ ap (λ (x : ℕ). sum binary64 false (w * den u) true (num shift * den u) x) (mul-one (den u))
    ∙ ap (λ (x : ℕ). sum binary64 false (w * den u) true (x * den u) (den u)) shift_num

to_plus : (x : Float) → T (finite x) → sgn x ≡ false → T (plus x)
to_plus nan f e = absurd f
to_plus (inf s) f e = absurd f
to_plus (fin s m d) f e = subst (λ (b : Bool). T (not b)) (sym e) tt

whole_ratio : (s : Bool) (k d : ℕ) → 0 < d → round binary64 s (k * d) d ≡ round binary64 s k 1
whole_ratio s k d D = round_same binary64 s (k * d) d k 1 D (lit≤ {m = 1} {n = 1} tt) (mul-one (k * d))

up_is : (k : ℕ) → round binary64 false k 1 ≡ of_int binary64 (pos k)
unfolding of_int
up_is k = refl

down_is : (k : ℕ) → round binary64 true (suc k) 1 ≡ of_int binary64 (negsuc k)
unfolding of_int
down_is k = refl

minus_times : (a b d : ℕ) → a * d - b * d ≡ (a - b) * d
minus_times a b d = sym (mul_comm (a - b) d ∙ mul-sub d a b ∙ ap (λ (z : ℕ). z - d * b) (mul_comm d a) ∙ ap (λ (z : ℕ). a * d - z) (mul_comm d b))

-- u is C + k: what is left is k
left_up : (u : Float) (k : ℕ) → T (plus u) → num u ≡ (C + k) * den u → u ⊖ shift ≡ of_int binary64 (signed false k)
left_up u k p e =
    back_at u (C + k) p e
    ∙ sum_over ((C + k) * den u) (C * den u) (den u) (mul-le-mul_right (den u) (more C k))
    ∙ ap (λ (x : ℕ). round binary64 false x (den u)) (minus_times (C + k) C (den u) ∙ ap (λ (x : ℕ). x * den u) (less C k))
    ∙ whole_ratio false k (den u) (den_pos u)
    ∙ up_is k
  where
    more : (C k : ℕ) → C ≤ C + k
    more C k = omega arith

    less : (C k : ℕ) → C + k - C ≡ k
    less C k = omega arith

-- u is C - k: what is left is -k, and +0 for a k of 0
left_down : (u : Float) (k : ℕ) → k ≤ C → T (plus u) → num u ≡ (C - k) * den u → u ⊖ shift ≡ of_int binary64 (signed true k)
left_down u zero h p e = left_up u 0 p e
left_down u (suc k) h p e =
    back_at u (C - suc k) p e
    ∙ sum_under false ((C - suc k) * den u) (C * den u) (den u) (mul-lt-mul_of_pos_right (fewer C k h) (den_pos u))
    ∙ ap (λ (x : ℕ). round binary64 true x (den u)) (minus_times C (C - suc k) (den u) ∙ ap (λ (x : ℕ). x * den u) (less C k h))
    ∙ whole_ratio true (suc k) (den u) (den_pos u)
    ∙ down_is k
  where
    fewer : (C k : ℕ) → suc k ≤ C → C - suc k < C
    fewer C k h = omega arith

    less : (C k : ℕ) → suc k ≤ C → C - (C - suc k) ≡ suc k
    less C k h = omega arith

-- ---- the whole of it
turns_most : (n d : ℕ) → 0 < d → n ≤ 2 ^ 50 * d → closest n d ≤ 2 ^ 50
turns_most n d D h = le_of_not_lt (λ (g : 2 ^ 50 < closest n d). no n (closest n d * d) d D (nearest_is n d D).under h (le_trans (le_of_eq (one_more d)) (mul-le-mul_right d g)))
  where
    one_more : (d : ℕ) → 2 ^ 50 * d + d ≡ suc (2 ^ 50) * d
    one_more d = omega arith

    le_of_not_lt : {a b : ℕ} → (a < b → ⊥) → b ≤ a
    le_of_not_lt {a} {b} f = omega (arith, f)

    no : (n K d : ℕ) → 0 < d → 2 * K ≤ 2 * n + d → n ≤ 2 ^ 50 * d → 2 ^ 50 * d + d ≤ K → ⊥
    no n K d D a b c = omega arith

pub shift_finds : (q : Float) → T (finite q) → num q ≤ 2 ^ 50 * den q → by_shift q ≡ nearest_whole q
unfolding nearest_whole
shift_finds q f h = go (sgn q) refl
  where
    n : ℕ
    n = num q

    d : ℕ
    d = den q

    D : 0 < d
    D = den_pos q

    K : ℕ
    K = closest n d

    lo_up : (n d : ℕ) → 2 ^ 52 * d ≤ C * d + n
    lo_up n d = omega arith

    hi_up : (n d : ℕ) → 0 < d → n ≤ 2 ^ 50 * d → C * d + n < 2 ^ 53 * d
    hi_up n d D h = omega arith

    lo_down : (n d : ℕ) → n ≤ 2 ^ 50 * d → 2 ^ 52 * d ≤ C * d - n
    lo_down n d h = omega arith

    hi_down : (n d : ℕ) → 0 < d → C * d - n < 2 ^ 53 * d
    hi_down n d D = omega arith

    smaller : (n d : ℕ) → 0 < d → n ≤ 2 ^ 50 * d → n < C * d
    smaller n d D h = omega arith

    go : (s : Bool) → sgn q ≡ s → by_shift q ≡ of_int binary64 (signed (sgn q) (nearest_size q))
    go false e =
        let u = round binary64 false (C * d + n) d in
        let w = round_whole false (C * d + n) d D (lo_up n d) (hi_up n d D h) in
        ap (λ (x : Float). x ⊖ shift) (sum_at q f ∙ ap (λ (s : Bool). sum binary64 s n false (C * d) d) e ∙ sum_both false n (C * d) d ∙ ap (λ (x : ℕ). round binary64 false x d) (swap n (C * d)))
        ∙ left_up u K (to_plus u w.0 w.1) (w.2 ∙ ap (λ (x : ℕ). x * den u) (closest_moved n d C D refl))
        ∙ ap (λ (s : Bool). of_int binary64 (signed s K)) (sym e)
      where
        swap : (a b : ℕ) → a + b ≡ b + a
        swap a b = omega arith
    go true e =
        let u = round binary64 false (C * d - n) d in
        let w = round_whole false (C * d - n) d D (lo_down n d h) (hi_down n d D) in
        let m : K ≤ C = le_trans (turns_most n d D h) (lit≤ {m = 2 ^ 50} {n = C} tt) in
        ap (λ (x : Float). x ⊖ shift) (sum_at q f ∙ ap (λ (s : Bool). sum binary64 s n false (C * d) d) e ∙ sum_under true n (C * d) d (smaller n d D h))
        ∙ left_down u K m (to_plus u w.0 w.1) (w.2 ∙ ap (λ (x : ℕ). x * den u) (closest_taken n d C D refl m (le_of_lt (smaller n d D h))))
        ∙ ap (λ (s : Bool). of_int binary64 (signed s K)) (sym e)
