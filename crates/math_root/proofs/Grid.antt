-- `round_root` in whole numbers. Of the fraction n / den it takes the root, drops `root_drop` digits and keeps the number `root_kept`. Its result is `root_grid` of the format's smallest values.
-- A larger fraction gives a `root_grid` that is no smaller, and a root that the format holds is kept as it is. Assumes nothing.
use mathlib.Core.Path.{◌≡◌, refl, sym, ap, ◌∙◌, subst}
use mathlib.Core.Logic.{inl, inr}
use Prim.Native.Nat.{ℕ, suc, ◌+◌, ◌-◌, ◌*◌, ◌/◌, ◌^◌, ◌≤◌, ◌<◌, zero-le, compare}
use native.Mathlib.Nat.{le_refl, le_trans, le_of_eq, lt_of_lt_of_le, lt_of_le_of_lt, lt_of_not-le, not-le_of_lt, eq-or-lt_of_le, mul-one, mul_assoc, mul_comm, mul_left_comm, mul-le-mul, mul-le-mul_right, mul-lt-mul_of_pos_right, mul-pos, mul-div_cancel, div-mul-le_self, le-div_iff_mul-le, div-lt_iff_lt-mul}
use native.Mathlib.Omega.{arith}
use mathlib.Core.Bool.{false}
use lib.Pow.{pow-add, pow_pos, pow_mono, shl_lt}
use lib.Ieee.{Format, prec, low, size, units}
use lib.Ieee.Digits.{size-lt, size-le, size_reaches, back}
use lib.Ieee.Fits.{nearest-le, two, two-le_pos}
use lib.Ieee.Nearest.{nearest-ge, div_mono, div_same}
use Rattle.math_root.specs.Root.{mid_square, isqrt, closest_root, round_root}
use Rattle.math_root.proofs.Floor.{isqrt_le, isqrt_lt}
use Rattle.math_root.proofs.Closest.{isqrt_ge, isqrt_below, isqrt_mono, isqrt_square, closest_root_is, closest_root_mono, closest_root_same, closest_root_square}

abbrev pub root_drop : ℕ → ℕ → ℕ → ℕ
root_drop p n den = size (isqrt (n / den)) - p

abbrev pub root_kept : ℕ → ℕ → ℕ → ℕ
root_kept p n den = closest_root n (den * 2 ^ root_drop p n den * 2 ^ root_drop p n den)

abbrev pub root_grid : ℕ → ℕ → ℕ → ℕ
root_grid p n den = root_kept p n den * 2 ^ root_drop p n den

pub round_root_is : (f : Format) (a c : ℕ) → round_root f a c ≡ units f false (root_kept (prec f) (a * 2 ^ low f * 2 ^ low f) c) (root_drop (prec f) (a * 2 ^ low f * 2 ^ low f) c)
unfolding round_root
round_root_is f a c = refl

-- ---- arithmetic

spread : (a k d : ℕ) → a * k * (a * k) * d ≡ a * a * (d * k * k)
spread a k d = simp (mul_assoc, mul_comm, mul_left_comm)

unit_pos : (den k : ℕ) → 0 < den → 0 < den * 2 ^ k * 2 ^ k
unit_pos den k h = mul-pos (mul-pos h (pow_pos k)) (pow_pos k)

pub size_gt : (n j : ℕ) → 2 ^ j ≤ n → j < size n
size_gt n j h = lt_of_not-le (λ (g : size n ≤ j). not-le_of_lt (lt_of_lt_of_le (size-lt n) (pow_mono g)) h)

size_mono : (a b : ℕ) → a ≤ b → size a ≤ size b
size_mono a b h = size-le a (size b) (lt_of_le_of_lt h (size-lt b))

-- ---- equal fractions
pub round_root_same : (f : Format) (a b c d : ℕ) → 0 < b → 0 < d → a * d ≡ c * b → round_root f a b ≡ round_root f c d
round_root_same f a b c d B D e =
    let l = 2 ^ low f in
    let p = prec f in
    let x : a * l * l * d ≡ c * l * l * b = out a l d ∙ ap (λ (z : ℕ). z * (l * l)) e ∙ sym (out c l b) in
    let k : root_drop p (a * l * l) b ≡ root_drop p (c * l * l) d = ap (λ (z : ℕ). size (isqrt z) - p) (div_same (a * l * l) b (c * l * l) d B D x) in
    let j = root_drop p (c * l * l) d in
    let y : a * l * l * (d * 2 ^ j * 2 ^ j) ≡ c * l * l * (b * 2 ^ j * 2 ^ j) = inn (a * l * l) d (2 ^ j) ∙ ap (λ (z : ℕ). z * (2 ^ j * 2 ^ j)) x ∙ sym (inn (c * l * l) b (2 ^ j)) in
    round_root_is f a b
    ∙ ap (λ (z : ℕ). units f false (closest_root (a * l * l) (b * 2 ^ z * 2 ^ z)) z) k
    ∙ ap (λ (z : ℕ). units f false z j) (closest_root_same (a * l * l) (b * 2 ^ j * 2 ^ j) (c * l * l) (d * 2 ^ j * 2 ^ j) (unit_pos b j B) (unit_pos d j D) y)
    ∙ sym (round_root_is f c d)
  where
    out : (a l d : ℕ) → a * l * l * d ≡ a * d * (l * l)
    out a l d = simp (mul_assoc, mul_comm, mul_left_comm)

    inn : (a d k : ℕ) → a * (d * k * k) ≡ a * d * (k * k)
    inn a d k = simp mul_assoc

-- ---- a larger fraction

cover : (z p : ℕ) → z ≤ p + (z - p)
cover z p = omega arith

all_in_use : (z p : ℕ) → 0 < p → 0 < z - p → p - 1 + (z - p) < z
all_in_use z p P h = omega arith

-- the kept number has at most p digits, or is 2 ^ p
pub kept_le : (p n den : ℕ) → 0 < den → root_kept p n den ≤ 2 ^ p
kept_le p n den D =
    let w = n / den in
    let r = isqrt w in
    let k = root_drop p n den in
    let u = den * 2 ^ k * 2 ^ k in
    let s : suc r ≤ 2 ^ p * 2 ^ k = le_trans (size-lt r) (le_trans (pow_mono (cover (size r) p)) (le_of_eq (pow-add 2 p k))) in
    let x : n < 2 ^ p * 2 ^ k * (2 ^ p * 2 ^ k) * den = (div-lt_iff_lt-mul D).0 (lt_of_lt_of_le (isqrt_lt w) (mul-le-mul s s)) in
    let y : isqrt (n / u) < 2 ^ p = isqrt_below (n / u) (2 ^ p) ((div-lt_iff_lt-mul (unit_pos den k D)).1 (lt_of_lt_of_le x (le_of_eq (spread (2 ^ p) (2 ^ k) den)))) in
    le_trans (le_of_eq (closest_root_is n u)) (le_trans (nearest-le (isqrt (n / u)) (compare (4 * n) (mid_square (isqrt (n / u)) * u))) y)

-- where digits are dropped, the root has p + k of them, and the kept number has p at least
pub root_reaches : (p n den : ℕ) → 0 < p → 0 < root_drop p n den → 2 ^ (p - 1) * 2 ^ root_drop p n den * (2 ^ (p - 1) * 2 ^ root_drop p n den) * den ≤ n
root_reaches p n den P K =
    let w = n / den in
    let r = isqrt w in
    let k = root_drop p n den in
    let s : 2 ^ (p - 1) * 2 ^ k ≤ r = le_trans (le_of_eq (sym (pow-add 2 (p - 1) k))) (size_reaches r (p - 1 + k) (all_in_use (size r) p P K)) in
    le_trans (mul-le-mul_right den (le_trans (mul-le-mul s s) (isqrt_le w))) (div-mul-le_self n den)

pub kept_ge : (p n den : ℕ) → 0 < p → 0 < den → 0 < root_drop p n den → 2 ^ (p - 1) ≤ root_kept p n den
kept_ge p n den P D K =
    let k = root_drop p n den in
    let u = den * 2 ^ k * 2 ^ k in
    let y : 2 ^ (p - 1) ≤ isqrt (n / u) = isqrt_ge (n / u) (2 ^ (p - 1)) ((le-div_iff_mul-le (unit_pos den k D)).1 (le_trans (le_of_eq (sym (spread (2 ^ (p - 1)) (2 ^ k) den))) (root_reaches p n den P K))) in
    le_trans y (le_trans (nearest-ge (isqrt (n / u)) (compare (4 * n) (mid_square (isqrt (n / u)) * u))) (le_of_eq (sym (closest_root_is n u))))

same_drop : (k a b c d : ℕ) → 0 < b → 0 < d → a * d ≤ c * b → closest_root a (b * 2 ^ k * 2 ^ k) * 2 ^ k ≤ closest_root c (d * 2 ^ k * 2 ^ k) * 2 ^ k
same_drop k a b c d B D h =
    mul-le-mul_right (2 ^ k)
    (closest_root_mono a (b * 2 ^ k * 2 ^ k) c (d * 2 ^ k * 2 ^ k) (unit_pos b k B) (unit_pos d k D)
    (le_trans (le_of_eq (inn a d (2 ^ k))) (le_trans (mul-le-mul_right (2 ^ k * 2 ^ k) h) (le_of_eq (sym (inn c b (2 ^ k)))))))
  where
    inn : (a d k : ℕ) → a * (d * k * k) ≡ a * d * (k * k)
    inn a d k = simp mul_assoc

fewer : (x y p : ℕ) → x ≤ y → x - p ≤ y - p
fewer x y p h = omega arith

room : (p j k : ℕ) → 0 < p → j < k → p + j ≤ p - 1 + k
room p j k P h = omega arith

-- Either both drop as many digits, and then the kept numbers are in order. Or the smaller drops fewer, and then a power of two lies between the two results.
pub root_grid_mono : (p a b c d : ℕ) → 0 < p → 0 < b → 0 < d → a * d ≤ c * b → root_grid p a b ≤ root_grid p c d
root_grid_mono p a b c d P B D h =
    let j = root_drop p a b in
    let k = root_drop p c d in
    elim (eq-or-lt_of_le (fewer (size (isqrt (a / b))) (size (isqrt (c / d))) p (size_mono (isqrt (a / b)) (isqrt (c / d)) (isqrt_mono (a / b) (c / d) (div_mono a b c d B D h))))) [
      | inl e ↦ subst (λ (x : ℕ). closest_root a (b * 2 ^ x * 2 ^ x) * 2 ^ x ≤ root_grid p c d) (sym e) (same_drop k a b c d B D h)
      | inr l ↦
          le_trans (mul-le-mul_right (2 ^ j) (kept_le p a b B))
          (le_trans (le_of_eq (sym (pow-add 2 p j)))
          (le_trans (pow_mono (room p j k P l))
          (le_trans (le_of_eq (pow-add 2 (p - 1) k)) (mul-le-mul_right (2 ^ k) (kept_ge p c d P D (lt_of_le_of_lt zero-le l))))))
    ]

-- ---- a root that the format holds

spare : (z p l : ℕ) → z ≤ p + l → z - p ≤ l
spare z p l h = omega arith

-- the square of g = q * 2 ^ j units, q of at most p digits, has the root g
pub root_grid_exact : (p n den q j : ℕ) → 0 < den → q < 2 ^ p → n ≡ q * 2 ^ j * (q * 2 ^ j) * den → root_grid p n den ≡ q * 2 ^ j
root_grid_exact p n den q j D small e =
    let g = q * 2 ^ j in
    let r = isqrt (n / den) in
    let e1 : r ≡ g = ap (λ (x : ℕ). isqrt (x / den)) e ∙ ap isqrt (mul-div_cancel (g * g) D) ∙ isqrt_square g in
    let k = root_drop p n den in
    let k_le : k ≤ j = spare (size r) p j (size-le r (p + j) (subst (λ (x : ℕ). x < 2 ^ (p + j)) (sym e1) (shl_lt p j small))) in
    let i = q * 2 ^ (j - k) in
    let e3 : i * 2 ^ k ≡ g = mul_assoc q (2 ^ (j - k)) (2 ^ k) ∙ ap (λ (x : ℕ). q * x) (sym (pow-add 2 (j - k) k) ∙ ap (λ (x : ℕ). 2 ^ x) (back j k k_le)) in
    let e4 : n * 1 ≡ i * i * (den * 2 ^ k * 2 ^ k) = mul-one n ∙ e ∙ ap (λ (x : ℕ). x * x * den) (sym e3) ∙ spread i (2 ^ k) den in
    let e5 : root_kept p n den ≡ i = closest_root_same n (den * 2 ^ k * 2 ^ k) (i * i) 1 (unit_pos den k D) (le_refl 1) e4 ∙ closest_root_square i in
    ap (λ (x : ℕ). x * 2 ^ k) e5 ∙ e3

-- ---- how many digits are dropped: k, where the root of n / den has p + k digits

drops : (z p k : ℕ) → 0 < p → p - 1 + k < z → z ≤ p + k → z - p ≡ k
drops z p k P a b = omega arith

pub root_drop_in : (p n den k : ℕ) → 0 < p → 0 < den → 2 ^ (p - 1) * 2 ^ k * (2 ^ (p - 1) * 2 ^ k) * den ≤ n → n < 2 ^ p * 2 ^ k * (2 ^ p * 2 ^ k) * den → root_drop p n den ≡ k
root_drop_in p n den k P D lo hi =
    let r = isqrt (n / den) in
    let a : 2 ^ (p - 1 + k) ≤ r = le_trans (le_of_eq (pow-add 2 (p - 1) k)) (isqrt_ge (n / den) (2 ^ (p - 1) * 2 ^ k) ((le-div_iff_mul-le D).1 lo)) in
    let b : r < 2 ^ (p + k) = lt_of_lt_of_le (isqrt_below (n / den) (2 ^ p * 2 ^ k) ((div-lt_iff_lt-mul D).1 hi)) (le_of_eq (sym (pow-add 2 p k))) in
    drops (size r) p k P (size_gt r (p - 1 + k) a) (size-le r (p + k) b)

-- where the fraction is R * 4 ^ k
pub root_drop_at : (p n den k R : ℕ) → 0 < p → 0 < den → n ≡ R * (den * 2 ^ k * 2 ^ k) → 2 ^ (p - 1) * 2 ^ (p - 1) ≤ R → R < 2 ^ p * 2 ^ p → root_drop p n den ≡ k
root_drop_at p n den k R P D e lo hi =
    root_drop_in p n den k P D
    (le_trans (le_of_eq (spread (2 ^ (p - 1)) (2 ^ k) den)) (le_trans (mul-le-mul_right (den * 2 ^ k * 2 ^ k) lo) (le_of_eq (sym e))))
    (lt_of_le_of_lt (le_of_eq e) (lt_of_lt_of_le (mul-lt-mul_of_pos_right hi (unit_pos den k D)) (le_of_eq (sym (spread (2 ^ p) (2 ^ k) den)))))

pub round_root_at : (f : Format) (a c k R : ℕ) → 0 < c → a * 2 ^ low f * 2 ^ low f ≡ R * (c * 2 ^ k * 2 ^ k) → 2 ^ (prec f - 1) * 2 ^ (prec f - 1) ≤ R → R < 2 ^ prec f * 2 ^ prec f
    → round_root f a c ≡ units f false (closest_root R 1) k
round_root_at f a c k R C e lo hi =
    let n = a * 2 ^ low f * 2 ^ low f in
    let d : root_drop (prec f) n c ≡ k = root_drop_at (prec f) n c k R (two-le_pos (prec f) (two f)) C e lo hi in
    round_root_is f a c
    ∙ ap (λ (z : ℕ). units f false (closest_root n (c * 2 ^ z * 2 ^ z)) z) d
    ∙ ap (λ (z : ℕ). units f false z k) (closest_root_same n (c * 2 ^ k * 2 ^ k) R 1 (unit_pos c k C) (le_refl 1) (mul-one n ∙ e))
