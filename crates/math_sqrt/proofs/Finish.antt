-- From the root of a whole number to the pattern of the root of an `f64`. Assumes nothing.
use Rattle.std.proofs.Common.{◌≡◌, ℕ, zero, suc, ◌+◌, ◌-◌, ◌*◌, ◌/◌, ◌%◌, ◌^◌, ◌<◌, ◌≤◌, true, false, ◌⊎◌, sym, refl, ap, ◌∙◌, subst, inl, inr, true≢false, le_trans, le_of_eq, le_refl, lt_of_le_of_lt, le_of_lt, mul-le-mul_right, mul_assoc, mul_comm, mul-le-mul, le_antisymm, eq-or-lt_of_le, mul-pos, zero-add, mul-div_cancel, mul_left_comm, arith, lit<, pow_pos, pow_mono, pow-add, shl_lt}
use native.Mathlib.Nat.{pow-succ'}
use lib.Count.{count_leading_zeros}
use lib.Pow.{pow-lt}
use lib.Ieee.{Float, nan, inf, fin, Format, binary64, prec, emax, low, down, size, units, hid, top, to_bits, of_bits}
use lib.Ieee.Digits.{size-le}
use lib.Ieee.Bits.{of_bits-to_bits}
use lib.Ieee.Fits.{down_pos}
use lib.Ieee.Exact.{HasValue, units_val}
use lib.Ieee.Scale.{overflow}
use lib.Ieee.Positive.{num, den, den_pos, value→cross, positive_of_value}
use Rattle.math_root.specs.Root.{closest_root, round_root, square_root}
use Rattle.math_root.proofs.Closest.{closest_root_mono, closest_root_square}
use Rattle.math_root.proofs.Grid.{size_gt, round_root_same, round_root_at}
use Rattle.math_root.proofs.Laws.{square_root_is, units_fits}
use Rattle.math_sqrt.specs.Steps.{radicand, root_bits}
use Rattle.math_sqrt.proofs.Lift.{Normal, lifted, from_subnormal, from_normal}

-- ---- the pattern of q * 2 ^ k smallest values

size_exact : (a n : ℕ) → 2 ^ a ≤ n → n < 2 ^ suc a → size n ≡ suc a
size_exact a n lo hi = le_antisymm (size-le n (suc a) hi) (size_gt n a lo)

-- the bits of a value of a units
to_bits_of : (f : Format) (v : Float) (a : ℕ) → HasValue v false a (2 ^ low f) → to_bits f v ≡ (size a - prec f) * hid f + a / 2 ^ (size a - prec f)
unfolding to_bits
to_bits_of f nan a h = absurd h
to_bits_of f (inf s) a h = absurd h
to_bits_of f (fin true m e) a h = absurd (true≢false h.0)
to_bits_of f (fin false m e) a h =
    ap (λ (n : ℕ). 0 + (size n - prec f) * hid f + n / 2 ^ (size n - prec f)) (ap (λ (x : ℕ). x / down e) h.1 ∙ mul-div_cancel a (down_pos e))
    ∙ ap (λ (x : ℕ). x + a / 2 ^ (size a - prec f)) (zero-add ((size a - prec f) * hid f))

bits_below : (q k : ℕ) → 2 ^ 52 ≤ q → q < 2 ^ 53 → (size (q * 2 ^ k) - 53) * 2 ^ 52 + q * 2 ^ k / 2 ^ (size (q * 2 ^ k) - 53) ≡ k * 2 ^ 52 + q
bits_below q k lo hi =
    let a = q * 2 ^ k in
    let z : size a - 53 ≡ k =
    ap (λ (x : ℕ). x - 53)
    (size_exact (52 + k) a (le_trans (le_of_eq (pow-add 2 52 k)) (mul-le-mul_right (2 ^ k) lo)) (subst (λ (x : ℕ). a < 2 ^ x) (one_more k) (shl_lt 53 k hi)))
    ∙ drop k in
    ap (λ (x : ℕ). x * 2 ^ 52 + a / 2 ^ x) z ∙ ap (λ (x : ℕ). k * 2 ^ 52 + x) (mul-div_cancel q (pow_pos k))
  where
    one_more : (k : ℕ) → 53 + k ≡ suc (52 + k)
    one_more k = omega arith

    drop : (k : ℕ) → suc (52 + k) - 53 ≡ k
    drop k = omega arith

bits_at : (k : ℕ) → (size (2 ^ 53 * 2 ^ k) - 53) * 2 ^ 52 + 2 ^ 53 * 2 ^ k / 2 ^ (size (2 ^ 53 * 2 ^ k) - 53) ≡ k * 2 ^ 52 + 2 ^ 53
bits_at k =
    let a = 2 ^ 53 * 2 ^ k in
    let e : a ≡ 2 ^ 52 * 2 ^ suc k = shift (2 ^ k) ∙ ap (λ (x : ℕ). 2 ^ 52 * x) (sym (pow-succ' 2 k)) in
    let z : size a - 53 ≡ suc k =
    ap (λ (x : ℕ). x - 53)
    (size_exact (53 + k) a (le_of_eq (pow-add 2 53 k)) (subst (λ (x : ℕ). a < 2 ^ x) (one_more k) (lt_of_le_of_lt (le_of_eq (sym (pow-add 2 53 k))) (pow-lt (less k)))))
    ∙ drop k in
    ap (λ (x : ℕ). x * 2 ^ 52 + a / 2 ^ x) z ∙ ap (λ (x : ℕ). suc k * 2 ^ 52 + x) (ap (λ (x : ℕ). x / 2 ^ suc k) e ∙ mul-div_cancel (2 ^ 52) (pow_pos (suc k))) ∙ carry k
  where
    shift : (p : ℕ) → 2 ^ 53 * p ≡ 2 ^ 52 * (2 * p)
    shift p = omega arith

    less : (k : ℕ) → 53 + k < 54 + k
    less k = omega arith

    one_more : (k : ℕ) → 54 + k ≡ suc (53 + k)
    one_more k = omega arith

    drop : (k : ℕ) → suc (53 + k) - 53 ≡ suc k
    drop k = omega arith

    carry : (k : ℕ) → suc k * 2 ^ 52 + 2 ^ 52 ≡ k * 2 ^ 52 + 2 ^ 53
    carry k = omega arith

no_overflow : (q k : ℕ) → q ≤ 2 ^ 53 → k ≤ 1533 → q * 2 ^ k < overflow binary64
no_overflow q k h l = lt_of_le_of_lt (mul-le-mul h (pow_mono l)) (lt_of_le_of_lt (le_of_eq (sym (pow-add 2 53 1533))) (pow-lt {i = 53 + 1533} {j = low binary64 + suc (emax binary64)} (lit< tt)))

pattern : (q k : ℕ) → 2 ^ 52 ≤ q → q ≤ 2 ^ 53 → k ≤ 1533 → of_bits binary64 (k * 2 ^ 52 + q) ≡ units binary64 false q k
pattern q k lo hi top =
    let v = units binary64 false q k in
    ap (of_bits binary64) (sym (to_bits_of binary64 v (q * 2 ^ k) (units_val binary64 false q k (no_overflow q k hi top)) ∙ go (eq-or-lt_of_le hi)))
    ∙ of_bits-to_bits binary64 v (units_fits binary64 false q k hi)
  where
    go : (q ≡ 2 ^ 53) ⊎ (q < 2 ^ 53) → (size (q * 2 ^ k) - 53) * 2 ^ 52 + q * 2 ^ k / 2 ^ (size (q * 2 ^ k) - 53) ≡ k * 2 ^ 52 + q
    go (inl e) = subst (λ (x : ℕ). (size (x * 2 ^ k) - 53) * 2 ^ 52 + x * 2 ^ k / 2 ^ (size (x * 2 ^ k) - 53) ≡ k * 2 ^ 52 + x) (sym e) (bits_at k)
    go (inr l) = bits_below q k lo l

-- ---- the root of a value, by any fraction that it equals

square_root_at : (f : Format) (x : Float) (a c : ℕ) → 0 < a → 0 < c → HasValue x false a c → square_root f x ≡ round_root f a c
square_root_at f x a c A C v = square_root_is f x (positive_of_value x a c v A) ∙ round_root_same f (num x) (den x) a c (den_pos x) C (value→cross x a c v)

-- ---- the even part of the power

-- twice the half of what is above 52, and the last digit
halved : (f : ℕ) → 1022 ≤ f → f ≡ 52 + (f - 52) / 2 + (f - 52) / 2 + f % 2
halved f h = omega arith

last_digit : (f : ℕ) → 2 ^ (f % 2) ≡ 1 + f % 2
last_digit f = go (f % 2) (small f)
  where
    small : (f : ℕ) → f % 2 < 2
    small f = omega arith

    go : (t : ℕ) → t < 2 → 2 ^ t ≡ 1 + t
    go zero h = refl
    go (suc zero) h = refl
    go (suc (suc t)) h = absurd (no t h)
      where
        no : (t : ℕ) → suc (suc t) < 2 → ⊥
        no t h = omega arith

-- d * 2 ^ f is R * 4 ^ k, and this is R
abbrev evened : ℕ → ℕ → ℕ
evened d f = d * (1 + f % 2) * 2 ^ 52

abbrev half : ℕ → ℕ
half f = (f - 52) / 2

even_part : (d f : ℕ) → 1022 ≤ f → d * 2 ^ f ≡ evened d f * (2 ^ half f * 2 ^ half f)
even_part d f h =
    let k = half f in
    ap (λ (x : ℕ). d * 2 ^ x) (halved f h)
    ∙ ap (λ (x : ℕ). d * x) (pow-add 2 (52 + k + k) (f % 2) ∙ ap (λ (x : ℕ). x * 2 ^ (f % 2)) (pow-add 2 (52 + k) k ∙ ap (λ (x : ℕ). x * 2 ^ k) (pow-add 2 52 k)))
    ∙ ap (λ (x : ℕ). d * (2 ^ 52 * 2 ^ k * 2 ^ k * x)) (last_digit f)
    ∙ turn d (2 ^ 52) (2 ^ k) (1 + f % 2)
  where
    turn : (d a k t : ℕ) → d * (a * k * k * t) ≡ d * t * a * (k * k)
    turn d a k t = simp (mul_assoc, mul_comm, mul_left_comm)

evened_ge : (d t : ℕ) → 2 ^ 52 ≤ d → 2 ^ 52 * 2 ^ 52 ≤ d * (1 + t) * 2 ^ 52
evened_ge d t h = mul-le-mul_right (2 ^ 52) (le_trans h (more d t))
  where
    more : (d t : ℕ) → d ≤ d * (1 + t)
    more d t = omega arith

evened_lt : (d t : ℕ) → d < 2 ^ 53 → t < 2 → d * (1 + t) * 2 ^ 52 < 2 ^ 53 * 2 ^ 53
evened_lt d t h l = lt_of_le_of_lt (mul-le-mul_right (2 ^ 52) (mul-le-mul (le_refl d) (two t l))) (double d h)
  where
    two : (t : ℕ) → t < 2 → 1 + t ≤ 2
    two t l = omega arith

    double : (d : ℕ) → d < 2 ^ 53 → d * 2 * 2 ^ 52 < 2 ^ 53 * 2 ^ 53
    double d h = omega arith

-- what the root of R says of the root of the value
root_is : (b d f : ℕ) → Normal b d f → square_root binary64 (of_bits binary64 b) ≡ units binary64 false (closest_root (evened d f) 1) (half f)
root_is b d f v =
    let L = 2 ^ low binary64 in
    let k = half f in
    square_root_at binary64 (of_bits binary64 b) (d * 2 ^ f) (L * L) (mul-pos (positive_d d v.least) (pow_pos f)) (mul-pos (pow_pos (low binary64)) (pow_pos (low binary64))) v.value
    ∙ round_root_at binary64 (d * 2 ^ f) (L * L) k (evened d f) (mul-pos (pow_pos (low binary64)) (pow_pos (low binary64)))
    (ap (λ (x : ℕ). x * L * L) (even_part d f v.from) ∙ turn (evened d f) (2 ^ k) L)
    (evened_ge d (f % 2) v.least) (evened_lt d (f % 2) v.below (small f))
  where
    positive_d : (d : ℕ) → 2 ^ 52 ≤ d → 0 < d
    positive_d d h = omega arith

    small : (f : ℕ) → f % 2 < 2
    small f = omega arith

    turn : (R k L : ℕ) → R * (k * k) * L * L ≡ R * (L * L * k * k)
    turn R k L = simp (mul_assoc, mul_comm, mul_left_comm)

-- the root of R has 53 digits, or is 2 ^ 53
root_least : (d f : ℕ) → 2 ^ 52 ≤ d → 2 ^ 52 ≤ closest_root (evened d f) 1
root_least d f h = le_trans (le_of_eq (sym (closest_root_square (2 ^ 52)))) (closest_root_mono (2 ^ 52 * 2 ^ 52) 1 (evened d f) 1 (lit< tt) (lit< tt) (mul-le-mul_right 1 (evened_ge d (f % 2) h)))

root_most : (d f : ℕ) → d < 2 ^ 53 → closest_root (evened d f) 1 ≤ 2 ^ 53
root_most d f h = le_trans (closest_root_mono (evened d f) 1 (2 ^ 53 * 2 ^ 53) 1 (lit< tt) (lit< tt) (mul-le-mul_right 1 (le_of_lt (evened_lt d (f % 2) h (small f))))) (le_of_eq (closest_root_square (2 ^ 53)))
  where
    small : (f : ℕ) → f % 2 < 2
    small f = omega arith

-- the pattern of the root
finish : (b d f : ℕ) → Normal b d f → of_bits binary64 (half f * 2 ^ 52 + closest_root (evened d f) 1) ≡ square_root binary64 (of_bits binary64 b)
finish b d f v = pattern (closest_root (evened d f) 1) (half f) (root_least d f v.least) (root_most d f v.below) (half_le f v.to) ∙ sym (root_is b d f v)
  where
    half_le : (f : ℕ) → f ≤ 3119 → half f ≤ 1533
    half_le f h = omega arith

-- it is below the infinity's
finish_lt : (b d f : ℕ) → Normal b d f → half f * 2 ^ 52 + closest_root (evened d f) 1 < 0x7ff0_0000_0000_0000
finish_lt b d f v = go (half f) (closest_root (evened d f) 1) (half_le f v.to) (root_most d f v.below)
  where
    half_le : (f : ℕ) → f ≤ 3119 → half f ≤ 1533
    half_le f h = omega arith

    go : (k q : ℕ) → k ≤ 1533 → q ≤ 2 ^ 53 → k * 2 ^ 52 + q < 0x7ff0_0000_0000_0000
    go k q h l = omega arith

-- ---- a normal number's own
own : (b : ℕ) → radicand b ≡ evened (b % 2 ^ 52 + 2 ^ 52) (b / 2 ^ 52 + 1073)
own b = ap (λ (t : ℕ). (b % 2 ^ 52 + 2 ^ 52) * t * 2 ^ 52) (even b)
  where
    even : (b : ℕ) → 2 - b / 2 ^ 52 % 2 ≡ 1 + (b / 2 ^ 52 + 1073) % 2
    even b = omega arith

pub own_most : (b : ℕ) → closest_root (radicand b) 1 ≤ 2 ^ 53
own_most b = le_trans (le_of_eq (ap (λ (n : ℕ). closest_root n 1) (own b))) (root_most (b % 2 ^ 52 + 2 ^ 52) (b / 2 ^ 52 + 1073) (below b))
  where
    below : (b : ℕ) → b % 2 ^ 52 + 2 ^ 52 < 2 ^ 53
    below b = omega arith

own_root : (b : ℕ) → root_bits b ≡ half (b / 2 ^ 52 + 1073) * 2 ^ 52 + closest_root (evened (b % 2 ^ 52 + 2 ^ 52) (b / 2 ^ 52 + 1073)) 1
own_root b = ap (λ (k : ℕ). k * 2 ^ 52 + closest_root (radicand b) 1) (halved b) ∙ ap (λ (n : ℕ). half (b / 2 ^ 52 + 1073) * 2 ^ 52 + closest_root n 1) (own b)
  where
    halved : (b : ℕ) → (b / 2 ^ 52 + 1021) / 2 ≡ half (b / 2 ^ 52 + 1073)
    halved b = omega arith

pub normal_root : (b : ℕ) → 2 ^ 52 ≤ b → b < 0x7ff0_0000_0000_0000 → of_bits binary64 (root_bits b) ≡ square_root binary64 (of_bits binary64 b)
normal_root b l h = ap (of_bits binary64) (own_root b) ∙ finish b (b % 2 ^ 52 + 2 ^ 52) (b / 2 ^ 52 + 1073) (from_normal b l h)

pub normal_root_lt : (b : ℕ) → 2 ^ 52 ≤ b → b < 0x7ff0_0000_0000_0000 → root_bits b < 0x7ff0_0000_0000_0000
normal_root_lt b l h = lt_of_le_of_lt (le_of_eq (own_root b)) (finish_lt b (b % 2 ^ 52 + 2 ^ 52) (b / 2 ^ 52 + 1073) (from_normal b l h))

-- ---- a subnormal's, whose digits d were moved up by u places and made those of a normal number

abbrev raised : ℕ → ℕ → ℕ
raised d u = d + (108 - u) * 2 ^ 52

raised_root : (d u : ℕ) → 2 ^ 52 ≤ d → d < 2 ^ 53 → u ≤ 52 → root_bits (raised d u) - 54 * 2 ^ 52 ≡ half (1074 - u) * 2 ^ 52 + closest_root (evened d (1074 - u)) 1
raised_root d u l h k =
    ap (λ (q : ℕ). (raised d u / 2 ^ 52 + 1021) / 2 * 2 ^ 52 + closest_root q 1 - 54 * 2 ^ 52) (ap (λ (x : ℕ). x * (2 - raised d u / 2 ^ 52 % 2) * 2 ^ 52) (digits d u l h k) ∙ ap (λ (t : ℕ). d * t * 2 ^ 52) (parity d u l h k))
    ∙ lower d u (closest_root (evened d (1074 - u)) 1) l h k
  where
    digits : (d u : ℕ) → 2 ^ 52 ≤ d → d < 2 ^ 53 → u ≤ 52 → raised d u % 2 ^ 52 + 2 ^ 52 ≡ d
    digits d u l h k = omega arith

    parity : (d u : ℕ) → 2 ^ 52 ≤ d → d < 2 ^ 53 → u ≤ 52 → 2 - raised d u / 2 ^ 52 % 2 ≡ 1 + (1074 - u) % 2
    parity d u l h k = omega arith

    lower : (d u q : ℕ) → 2 ^ 52 ≤ d → d < 2 ^ 53 → u ≤ 52 → (raised d u / 2 ^ 52 + 1021) / 2 * 2 ^ 52 + q - 54 * 2 ^ 52 ≡ half (1074 - u) * 2 ^ 52 + q
    lower d u q l h k = omega arith

-- a subnormal's digits, moved up by their leading zeros
abbrev pub lift : ℕ → ℕ
lift b = raised (b * 2 ^ (count_leading_zeros 64 b - 11) % 2 ^ 64) (count_leading_zeros 64 b - 11)

pub subnormal_root : (b : ℕ) → 0 < b → b < 2 ^ 52 → of_bits binary64 (root_bits (lift b) - 54 * 2 ^ 52) ≡ square_root binary64 (of_bits binary64 b)
subnormal_root b l h =
    let u = count_leading_zeros 64 b - 11 in
    let d = b * 2 ^ u % 2 ^ 64 in
    let v = from_subnormal b l h in
    ap (of_bits binary64) (raised_root d u v.least v.below (lifted b l h).to) ∙ finish b d (1074 - u) v
