-- What a fraction is rounded to, counted in the unit that is kept; and operations on values that are counts of 2 ^ -1074. Assumes nothing.
use mathlib.Core.Path.{◌≡◌, refl, sym, ap, ap₂, ◌∙◌, subst}
use Prim.Native.Nat.{ℕ, ◌+◌, ◌-◌, ◌*◌, ◌/◌, ◌^◌, ◌≤◌, ◌<◌}
use native.Mathlib.Nat.{le_trans, le_of_eq, lt_of_lt_of_le, lt_of_not-le, not-le_of_lt, mul-one, mul_comm, mul_assoc, mul_left_comm, mul_right_comm, mul-le-mul_right, mul-lt-mul_of_pos_right, eq_of_mul-eq-mul_right, mul-pos, mul-sub, add-mul, le_of_mul-le-mul_right, le-div_iff_mul-le, div-lt_iff_lt-mul}
use native.Mathlib.Omega.{arith}
use mathlib.Core.Bool.{Bool, true, false, true≢false}
use lib.Dec.{T}
use lib.Pow.{pow-add, pow_pos, pow_mono}
use lib.Ieee.{Float, nan, inf, fin, binary64, size, round, sum, unlike}
use lib.Ieee.Digits.{size-lt, size-le, size_reaches}
use lib.Ieee.Exact.{HasValue, round_exact}
use lib.Ieee.Nearest.{closest, closest_same, div_same}
use lib.Ieee.Order.{drop, kept}
use lib.Ieee.Scale.{grid, round_same}
use lib.Ieee.Positive.{num, den, den_pos}
use Rattle.ieee.specs.Operators.{◌⊕◌, ◌⊖◌, ◌⊗◌, ◌⊘◌}
use Rattle.ieee.specs.Range.{plus}
use Rattle.ieee.proofs.Range.Round.{round_value, value_cross, value_sign, value_finite}
use Rattle.ieee.proofs.Range.Laws.{mul_is, add_is, div_is}
use Rattle.ieee.proofs.Range.Sums.{sub_sum}
use Rattle.whole_nearest.specs.Nearest.{Nearest}
use Rattle.whole_nearest.proofs.Laws.{nearest_is, nearest_one}
use Rattle.whole_nearest.proofs.Shift.{sum_over, sum_both}

-- ---- n / d is P units of 2 ^ k as rounded, and has 53 digits before the unit
pub record Unit (n d P k : ℕ) : Type 0 where
  pub least : 2 ^ 52 * (d * 2 ^ k) ≤ n
  pub most : n < 2 ^ 53 * (d * 2 ^ k)
  pub near : Nearest n (d * 2 ^ k) P

size_gt : (n j : ℕ) → 2 ^ j ≤ n → j < size n
size_gt n j h = lt_of_not-le (λ (g : size n ≤ j). not-le_of_lt (lt_of_lt_of_le (size-lt n) (pow_mono g)) h)

split : (i k d : ℕ) → 2 ^ (i + k) * d ≡ 2 ^ i * (d * 2 ^ k)
split i k d = ap (λ (x : ℕ). x * d) (pow-add 2 i k) ∙ mul_assoc (2 ^ i) (2 ^ k) d ∙ ap (λ (x : ℕ). 2 ^ i * x) (mul_comm (2 ^ k) d)

-- where it is 2 ^ 52 at least
pub unit_of : (n d : ℕ) → 0 < d → 2 ^ 52 * d ≤ n → Unit n d (kept 53 n d) (drop 53 n d)
unit_of n d D h =
    let z = size (n / d) in
    let Z : 52 < z = size_gt (n / d) 52 ((le-div_iff_mul-le D).1 h) in
    let k = z - 53 in
    let lo : 2 ^ (52 + k) * d ≤ n = (le-div_iff_mul-le D).0 (size_reaches (n / d) (52 + k) (under z Z)) in
    let hi : n < 2 ^ (53 + k) * d = (div-lt_iff_lt-mul D).0 (subst (λ (x : ℕ). n / d < 2 ^ x) (over z Z) (size-lt (n / d))) in
    record {
      least = subst (λ (x : ℕ). x ≤ n) (split 52 k d) lo;
      most = subst (λ (x : ℕ). n < x) (split 53 k d) hi;
      near = nearest_is n (d * 2 ^ k) (mul-pos D (pow_pos k));
    }
  where
    under : (z : ℕ) → 52 < z → 52 + (z - 53) < z
    under z h = omega arith

    over : (z : ℕ) → 52 < z → z ≡ 53 + (z - 53)
    over z h = omega arith

-- 2 ^ t times as much, in units of as much more
pub unit_scale : (n d P k t : ℕ) → Unit n d P k → Unit (n * 2 ^ t) d P (k + t)
unit_scale n d P k t u =
    let e : d * 2 ^ k * 2 ^ t ≡ d * 2 ^ (k + t) = mul_assoc d (2 ^ k) (2 ^ t) ∙ ap (λ (x : ℕ). d * x) (sym (pow-add 2 k t)) in
    record {
      least = subst (λ (x : ℕ). 2 ^ 52 * x ≤ n * 2 ^ t) e (le_trans (le_of_eq (sym (mul_assoc (2 ^ 52) (d * 2 ^ k) (2 ^ t)))) (mul-le-mul_right (2 ^ t) u.least));
      most = subst (λ (x : ℕ). n * 2 ^ t < 2 ^ 53 * x) e (lt_of_lt_of_le (mul-lt-mul_of_pos_right u.most (pow_pos t)) (le_of_eq (mul_assoc (2 ^ 53) (d * 2 ^ k) (2 ^ t))));
      near = subst (λ (x : ℕ). Nearest (n * 2 ^ t) x P) e (wider n (d * 2 ^ k) P (2 ^ t) (pow_pos t) u.near);
    }
  where
    wider : (n d K w : ℕ) → 0 < w → Nearest n d K → Nearest (n * w) (d * w) K
    wider n d K w W h =
        let i : 2 * (K * (d * w)) ≡ 2 * (K * d) * w = simp (mul_assoc) in
        let j : 2 * (n * w) + d * w ≡ (2 * n + d) * w = ap (λ (x : ℕ). x + d * w) (sym (mul_assoc 2 n w)) ∙ sym (add-mul (2 * n) d w) in
        let l : 2 * (n * w) ≡ 2 * n * w = sym (mul_assoc 2 n w) in
        let m : 2 * (K * (d * w)) + d * w ≡ (2 * (K * d) + d) * w = ap (λ (x : ℕ). x + d * w) i ∙ sym (add-mul (2 * (K * d)) d w) in
        record {
          under = le_trans (le_of_eq i) (le_trans (mul-le-mul_right w h.under) (le_of_eq (sym j)));
          over = le_trans (le_of_eq l) (le_trans (mul-le-mul_right w h.over) (le_of_eq (sym m)));
          even_above = λ e. h.even_above (eq_of_mul-eq-mul_right w W (2 * (K * d)) (2 * n + d) (sym i ∙ e ∙ j));
          even_below = λ e. h.even_below (eq_of_mul-eq-mul_right w W (2 * n) (2 * (K * d) + d) (sym l ∙ e ∙ m));
        }

dropped : (z k : ℕ) → 52 + k < z → z ≤ 53 + k → z - 53 ≡ k
dropped z k a b = omega arith

drop_at : (n d P k : ℕ) → 0 < d → Unit n d P k → drop 53 n d ≡ k
drop_at n d P k D u =
    dropped (size (n / d)) k
    (size_gt (n / d) (52 + k) ((le-div_iff_mul-le D).1 (subst (λ (x : ℕ). x ≤ n) (sym (split 52 k d)) u.least)))
    (size-le (n / d) (53 + k) ((div-lt_iff_lt-mul D).1 (subst (λ (x : ℕ). n < x) (sym (split 53 k d)) u.most)))

grid_at : (n d P k : ℕ) → 0 < d → Unit n d P k → grid binary64 n (d * 2 ^ 1074) ≡ P * 2 ^ k
grid_at n d P k D u =
    ap (λ (j : ℕ). closest (n * 2 ^ 1074) (d * 2 ^ 1074 * 2 ^ j) * 2 ^ j) same
    ∙ ap (λ (x : ℕ). x * 2 ^ k)
    (closest_same (n * 2 ^ 1074) (d * 2 ^ 1074 * 2 ^ k) n (d * 2 ^ k) (mul-pos (mul-pos D (pow_pos 1074)) (pow_pos k)) (mul-pos D (pow_pos k)) (cross n d (2 ^ 1074) (2 ^ k))
    ∙ nearest_one n (d * 2 ^ k) (closest n (d * 2 ^ k)) P (mul-pos D (pow_pos k)) (nearest_is n (d * 2 ^ k) (mul-pos D (pow_pos k))) u.near)
  where
    cross : (n d l w : ℕ) → n * l * (d * w) ≡ n * (d * l * w)
    cross n d l w = simp (mul_assoc, mul_left_comm)

    same : drop 53 (n * 2 ^ 1074) (d * 2 ^ 1074) ≡ k
    same = ap (λ (x : ℕ). size x - 53) (div_same (n * 2 ^ 1074) (d * 2 ^ 1074) n d (mul-pos D (pow_pos 1074)) D (mul_assoc n (2 ^ 1074) d ∙ ap (λ (x : ℕ). n * x) (mul_comm (2 ^ 1074) d))) ∙ drop_at n d P k D u

pub unit_value : (n d P k : ℕ) → 0 < d → Unit n d P k → P * 2 ^ k < 2 ^ (1074 + 1024) → HasValue (round binary64 false n (d * 2 ^ 1074)) false (P * 2 ^ k) (2 ^ 1074)
unit_value n d P k D u o =
    let e = grid_at n d P k D u in
    subst (λ (g : ℕ). HasValue (round binary64 false n (d * 2 ^ 1074)) false g (2 ^ 1074)) e
    (round_value binary64 false n (d * 2 ^ 1074) (subst (λ (g : ℕ). g < 2 ^ (1074 + 1024)) (sym e) o))

-- a whole number of few digits is kept
pub exact_value : (n q i : ℕ) → n ≡ q * 2 ^ i → q < 2 ^ 53 → n < 2 ^ (1074 + 1024) → HasValue (round binary64 false n (2 ^ 1074)) false n (2 ^ 1074)
exact_value n q i e h o = round_exact binary64 false n (2 ^ 1074) q i (pow_pos 1074) h (subst (λ (x : ℕ). x < 2 ^ (1074 + 1024)) e o) (ap (λ (x : ℕ). x * 2 ^ 1074) e)

-- ---- x is n of 2 ^ -1074, with a clear sign
abbrev pub Count : Float → ℕ → Type 0
Count x n = HasValue x false n (2 ^ 1074)

pub value_plus : (x : Float) (a c : ℕ) → HasValue x false a c → T (plus x)
value_plus nan a c h = absurd h
value_plus (inf s) a c h = absurd h
value_plus (fin true m e) a c h = absurd (true≢false h.0)
value_plus (fin false m e) a c h = tt

pub has_value : (x : Float) (a c : ℕ) → T (plus x) → num x * c ≡ a * den x → HasValue x false a c
has_value nan a c h e = absurd h
has_value (inf s) a c h e = absurd h
has_value (fin true m k) a c h e = absurd h
has_value (fin false m k) a c h e = (refl, e)

-- a product with b / d
pub mul_count : (x y : Float) (n b d : ℕ) → 0 < d → Count x n → HasValue y false b d → x ⊗ y ≡ round binary64 false (n * b) (d * 2 ^ 1074)
mul_count x y n b d D h g =
    mul_is x y (value_finite x false n (2 ^ 1074) h) (value_finite y false b d g)
    ∙ ap₂ (λ (s t : Bool). round binary64 (unlike s t) (num x * num y) (den x * den y)) (value_sign x false n (2 ^ 1074) h) (value_sign y false b d g)
    ∙ round_same binary64 false (num x * num y) (den x * den y) (n * b) (d * 2 ^ 1074) (mul-pos (den_pos x) (den_pos y)) (mul-pos D (pow_pos 1074))
    (cross (num x) (den x) (num y) (den y) n b d (2 ^ 1074) (value_cross x false n (2 ^ 1074) h) (value_cross y false b d g))
  where
    cross : (X dx Y dy n b d l : ℕ) → X * l ≡ n * dx → Y * d ≡ b * dy → X * Y * (d * l) ≡ n * b * (dx * dy)
    cross X dx Y dy n b d l e f =
        let i : X * Y * (d * l) ≡ X * l * (Y * d) = simp (mul_assoc, mul_comm, mul_left_comm) in
        let j : n * dx * (b * dy) ≡ n * b * (dx * dy) = simp (mul_assoc, mul_comm, mul_left_comm) in
        i ∙ ap₂ ◌*◌ e f ∙ j

-- a difference
pub sub_count : (x y : Float) (n m : ℕ) → Count x n → Count y m → m ≤ n → x ⊖ y ≡ round binary64 false (n - m) (2 ^ 1074)
sub_count x y n m h g o =
    let e = value_cross x false n (2 ^ 1074) h in
    let f = value_cross y false m (2 ^ 1074) g in
    sub_sum x y (value_plus x n (2 ^ 1074) h) (value_plus y m (2 ^ 1074) g)
    ∙ sum_over (num x * den y) (num y * den x) (den x * den y) (order (num x) (den x) (num y) (den y) n m (2 ^ 1074) (pow_pos 1074) e f o)
    ∙ round_same binary64 false (num x * den y - num y * den x) (den x * den y) (n - m) (2 ^ 1074) (mul-pos (den_pos x) (den_pos y)) (pow_pos 1074) (cross (num x) (den x) (num y) (den y) n m (2 ^ 1074) e f)
  where
    left : (X dx dy n l : ℕ) → X * l ≡ n * dx → X * dy * l ≡ n * (dx * dy)
    left X dx dy n l e = mul_right_comm X dy l ∙ ap (λ (z : ℕ). z * dy) e ∙ mul_assoc n dx dy

    right : (dx Y dy m l : ℕ) → Y * l ≡ m * dy → Y * dx * l ≡ m * (dx * dy)
    right dx Y dy m l e = mul_right_comm Y dx l ∙ ap (λ (z : ℕ). z * dx) e ∙ mul_assoc m dy dx ∙ ap (λ (z : ℕ). m * z) (mul_comm dy dx)

    order : (X dx Y dy n m l : ℕ) → 0 < l → X * l ≡ n * dx → Y * l ≡ m * dy → m ≤ n → Y * dx ≤ X * dy
    order X dx Y dy n m l L e f o =
        le_of_mul-le-mul_right (le_trans (le_of_eq (right dx Y dy m l f)) (le_trans (mul-le-mul_right (dx * dy) o) (le_of_eq (sym (left X dx dy n l e))))) L

    cross : (X dx Y dy n m l : ℕ) → X * l ≡ n * dx → Y * l ≡ m * dy → (X * dy - Y * dx) * l ≡ (n - m) * (dx * dy)
    cross X dx Y dy n m l e f =
        mul_comm (X * dy - Y * dx) l
        ∙ mul-sub l (X * dy) (Y * dx)
        ∙ ap₂ ◌-◌ (mul_comm l (X * dy) ∙ left X dx dy n l e ∙ mul_comm n (dx * dy)) (mul_comm l (Y * dx) ∙ right dx Y dy m l f ∙ mul_comm m (dx * dy))
        ∙ sym (mul-sub (dx * dy) n m)
        ∙ mul_comm (dx * dy) (n - m)

-- a sum
pub add_count : (x y : Float) (n m : ℕ) → Count x n → Count y m → x ⊕ y ≡ round binary64 false (n + m) (2 ^ 1074)
add_count x y n m h g =
    add_is x y (value_finite x false n (2 ^ 1074) h) (value_finite y false m (2 ^ 1074) g)
    ∙ ap₂ (λ (s t : Bool). sum binary64 s (num x * den y) t (num y * den x) (den x * den y)) (value_sign x false n (2 ^ 1074) h) (value_sign y false m (2 ^ 1074) g)
    ∙ sum_both false (num x * den y) (num y * den x) (den x * den y)
    ∙ round_same binary64 false (num x * den y + num y * den x) (den x * den y) (n + m) (2 ^ 1074) (mul-pos (den_pos x) (den_pos y)) (pow_pos 1074)
    (cross (num x) (den x) (num y) (den y) n m (2 ^ 1074) (value_cross x false n (2 ^ 1074) h) (value_cross y false m (2 ^ 1074) g))
  where
    cross : (X dx Y dy n m l : ℕ) → X * l ≡ n * dx → Y * l ≡ m * dy → (X * dy + Y * dx) * l ≡ (n + m) * (dx * dy)
    cross X dx Y dy n m l e f =
        add-mul (X * dy) (Y * dx) l
        ∙ ap₂ ◌+◌ (mul_right_comm X dy l ∙ ap (λ (z : ℕ). z * dy) e ∙ mul_assoc n dx dy) (mul_right_comm Y dx l ∙ ap (λ (z : ℕ). z * dx) f ∙ mul_assoc m dy dx ∙ ap (λ (z : ℕ). m * z) (mul_comm dy dx))
        ∙ sym (add-mul n m (dx * dy))

-- a quotient by a whole number
pub div_count : (x y : Float) (n c : ℕ) → 0 < c → Count x n → HasValue y false c 1 → x ⊘ y ≡ round binary64 false n (c * 2 ^ 1074)
div_count x y n c C h g =
    let e = value_cross x false n (2 ^ 1074) h in
    let f = value_cross y false c 1 g in
    div_is x y (value_finite x false n (2 ^ 1074) h) (value_finite y false c 1 g) (above (num y) (den y) c f (den_pos y) C)
    ∙ ap₂ (λ (s t : Bool). round binary64 (unlike s t) (num x * den y) (num y * den x)) (value_sign x false n (2 ^ 1074) h) (value_sign y false c 1 g)
    ∙ round_same binary64 false (num x * den y) (num y * den x) n (c * 2 ^ 1074) (mul-pos (above (num y) (den y) c f (den_pos y) C) (den_pos x)) (mul-pos C (pow_pos 1074))
    (cross (num x) (den x) (num y) (den y) n c (2 ^ 1074) e f)
  where
    above : (Y dy c : ℕ) → Y * 1 ≡ c * dy → 0 < dy → 0 < c → 0 < Y
    above Y dy c e D C = subst (λ (z : ℕ). 0 < z) (sym e ∙ mul-one Y) (mul-pos C D)

    cross : (X dx Y dy n c l : ℕ) → X * l ≡ n * dx → Y * 1 ≡ c * dy → X * dy * (c * l) ≡ n * (Y * dx)
    cross X dx Y dy n c l e f =
        let i : X * dy * (c * l) ≡ X * l * (c * dy) = simp (mul_assoc, mul_comm, mul_left_comm) in
        let j : n * dx * Y ≡ n * (Y * dx) = simp (mul_assoc, mul_comm, mul_left_comm) in
        i ∙ ap₂ ◌*◌ e (sym f ∙ mul-one Y) ∙ j
