-- |r - (x - k·2π)| ≤ 2 ^ -52 and a little: 288,230,376,157,241,136 / 2 ^ 110, for every f64 from 0 to 2 ^ 20, by fractions. Assumes nothing.
use mathlib.Core.Path.{◌≡◌, refl, sym, ap, ap₂, ◌∙◌, subst}
use Prim.Native.Nat.{ℕ, zero, suc, ◌+◌, ◌-◌, ◌*◌, ◌^◌, ◌≤◌, ◌<◌}
use native.Mathlib.Nat.{le_trans, le_of_eq, le_of_lt, lt_of_le_of_lt, mul-one, mul_comm, mul_assoc, mul_left_comm, mul_right_comm, mul-le-mul_left, mul-le-mul_right, zero-mul, mul-add, le_of_mul-le-mul_right, mul-pos, add-mul}
use native.Mathlib.Omega.{arith}
use mathlib.Core.Bool.{Bool, true, false, not}
use lib.Dec.{T, ltb, ltb→lt, nltb→le, lit≤}
use lib.Pow.{pow_pos}
use lib.IntN.{ℤ, pos, nat_abs, neg_ℤ, ◌+ℤ◌, ◌-ℤ◌, -ℤ-+ℤ_cancel, +ℤ_comm}
use lib.Ieee.{Float, binary64, round, sum, fits, of_int, of_bits, unlike}
use lib.Ieee.Scale.{finite, round_same}
use lib.Ieee.Positive.{num, den, den_pos}
use Rattle.ieee.specs.Operators.{◌⊖◌, ◌⊗◌, ◌⊘◌}
use Rattle.ieee.specs.Range.{sgn, Mag}
use Rattle.ieee.proofs.Range.Laws.{round_mag, mul_is, in_mag, mul_mag}
use Rattle.whole_f64.specs.Whole.{signed, Is}
use Rattle.whole_f64.proofs.Laws.{signed_add}
use Rattle.whole_nearest.proofs.Shift.{sum_both, sum_over, sum_under}
use Rattle.whole_nearest.specs.Nearest.{nearest_size, nearest_whole}
use Rattle.math_trig.specs.Angles.{tau, tau_high, tau_low}
use Rattle.math_trig.specs.Trig.{less_turns, reduce}
use Rattle.math_trig.proofs.Turns.{turns_of, round_sgn}
use Rattle.math_trig.proofs.Less.{whole_is, sign_of, cross_of, whole_mag, sub_at, k_is}
use Rattle.math_phase.specs.Claim.{two_pi}
use Rattle.math_phase.proofs.Exact.{tau_count, half_turn, left_is, no_turn_same, low_exact}
use Rattle.ieee.proofs.Half.{Half, half}

-- r is (above r - below r) / den r
abbrev pub pick : Bool → ℕ → ℕ → ℕ
pick true a b = a
pick false a b = b

abbrev pub above : Float → ℕ
above r = pick (sgn r) 0 (num r)

abbrev pub below : Float → ℕ
below r = pick (sgn r) (num r) 0

-- 2 ^ -52 and what the rounding of k·t and the digits of t add to it, in units of 2 ^ -110
abbrev pub most_parts : ℕ
most_parts = 2 ^ 58 + 5529392

-- |r - (x - K·turn)| ≤ most-parts / 2 ^ 110 for an x that is not negative, multiplied out; a turn is so many 2 ^ -110
pub record Accurate (turn K : ℕ) (x r : Float) : Type 0 where
  pub most : above r * den x * 2 ^ 110 + K * turn * (den x * den r) ≤ num x * den r * 2 ^ 110 + below r * den x * 2 ^ 110 + most_parts * (den x * den r)
  pub least : num x * den r * 2 ^ 110 + below r * den x * 2 ^ 110 ≤ above r * den x * 2 ^ 110 + K * turn * (den x * den r) + most_parts * (den x * den r)

-- ---- the second difference, as whole numbers
-- n + Y is X where ±n is X - Y
clear_count : (n X Y : ℕ) → pos n ≡ pos X -ℤ pos Y → n + Y ≡ X
clear_count n X Y e = ap nat_abs (sym (signed_add false n Y) ∙ ap (λ (z : ℤ). z +ℤ pos Y) e ∙ -ℤ-+ℤ_cancel (pos X) (pos Y))

turned_count : (n X Y : ℕ) → neg_ℤ (pos n) ≡ pos X -ℤ pos Y → X + n ≡ Y
turned_count n X Y e =
    ap nat_abs
    (sym (signed_add false X n)
    ∙ ap (λ (z : ℤ). z +ℤ pos n) (sym (ap (λ (z : ℤ). z +ℤ pos Y) e ∙ -ℤ-+ℤ_cancel (pos X) (pos Y)) ∙ +ℤ_comm (neg_ℤ (pos n)) (pos Y))
    ∙ -ℤ-+ℤ_cancel (pos Y) (pos n))

parts_exact : (d : Float) (X Y : ℕ) → Is 51 d (pos X -ℤ pos Y) → above d * 2 ^ 51 + Y * den d ≡ X * den d + below d * 2 ^ 51
parts_exact d X Y h = go (sgn d) h.sign
  where
    n : ℕ
    n = nat_abs (pos X -ℤ pos Y)

    one : (n N Y X D : ℕ) → N * 2 ^ 51 ≡ n * D → n + Y ≡ X → N * 2 ^ 51 + Y * D ≡ X * D + 0 * 2 ^ 51
    one n N Y X D e f = let g : n * D + Y * D ≡ X * D = sym (add-mul n Y D) ∙ ap (λ (z : ℕ). z * D) f in omega arith

    two : (n N Y X D : ℕ) → N * 2 ^ 51 ≡ n * D → X + n ≡ Y → 0 * 2 ^ 51 + Y * D ≡ X * D + N * 2 ^ 51
    two n N Y X D e f = let g : X * D + n * D ≡ Y * D = sym (add-mul X n D) ∙ ap (λ (z : ℕ). z * D) f in omega arith

    go : (s : Bool) → signed s n ≡ pos X -ℤ pos Y → pick s 0 (num d) * 2 ^ 51 + Y * den d ≡ X * den d + pick s (num d) 0 * 2 ^ 51
    go false e = one n (num d) Y X (den d) h.size (clear_count n X Y e)
    go true e = two n (num d) Y X (den d) h.size (turned_count n X Y e)

-- ---- k·t, in units of 2 ^ -110
abbrev t : ℕ
t = 4967757600021511

record Product (K : ℕ) (v : Float) : Type 0 where
  plain : sgn v ≡ false
  most : num v * 2 ^ 110 ≤ K * (t * 2 ^ 6) * den v + 2 ^ 22 * den v
  least : K * (t * 2 ^ 6) * den v ≤ num v * 2 ^ 110 + 2 ^ 22 * den v

low_num : num tau_low ≡ t
unfolding of_bits
low_num = refl

low_den : den tau_low ≡ 2 ^ 104
unfolding of_bits
low_den = refl

low_sgn : sgn tau_low ≡ false
unfolding of_bits
low_sgn = refl

low_fine : T (finite tau_low)
unfolding of_bits
low_fine = tt

product_is : (K : ℕ) (k : Float) → 0 < K → Is 0 k (pos K) → k ⊗ tau_low ≡ round binary64 false (K * t) (2 ^ 104)
product_is K k P h =
    mul_is k tau_low h.fine low_fine
    ∙ ap₂ (λ (a b : Bool). round binary64 (unlike a b) (num k * num tau_low) (den k * den tau_low)) (sign_of false K P h) low_sgn
    ∙ ap₂ (λ (a b : ℕ). round binary64 false (num k * a) (den k * b)) low_num low_den
    ∙ round_same binary64 false (num k * t) (den k * 2 ^ 104) (K * t) (2 ^ 104) (mul-pos (den_pos k) (pow_pos 104)) (pow_pos 104)
    (cross (num k) (den k) K t (2 ^ 104) (sym (mul-one (num k)) ∙ cross_of false K h))
  where
    cross : (n d K t p : ℕ) → n ≡ K * d → n * t * p ≡ K * t * (d * p)
    cross n d K t p e = ap (λ (z : ℕ). z * t * p) e ∙ simp (mul_assoc, mul_comm, mul_left_comm)

product_of : (K : ℕ) (k : Float) → 0 < K → K ≤ 166886 → Is 0 k (pos K) → Product K (k ⊗ tau_low)
product_of K k P few h =
    subst (λ (z : Float). Product K z) (sym (product_is K k P h))
    (let v = round binary64 false (K * t) (2 ^ 104) in
    let w : Half 87 (K * t) (2 ^ 104) v = half false (K * t) (2 ^ 104) 87 987 refl (pow_pos 104) (small K few) (round_mag false (K * t) (2 ^ 104) 1 1 1 0 (pow_pos 104) (lit≤ {m = 1} {n = 1} tt) (low_enough K few) tt).fine in
    record {
      plain = round_sgn false (K * t) (2 ^ 104);
      most = le_trans (over (num v) (K * t) (den v) (cut (num v) (K * t) (den v) (2 ^ 104) (2 ^ 22) (2 ^ 5) (2 ^ 82) (pow_pos 82) w.most)) (le_of_eq (ap (λ (z : ℕ). z + 2 ^ 22 * den v) (spread K (den v))));
      least = le_trans (le_of_eq (sym (spread K (den v)))) (under (num v) (K * t) (den v) (cut' (num v) (K * t) (den v) (2 ^ 104) (2 ^ 22) (2 ^ 5) (2 ^ 82) (pow_pos 82) w.least));
    })
  where
    -- in one step of numerals each
    small : (K : ℕ) → K ≤ 166886 → K * t * 2 ^ 87 < 2 ^ 53 * 2 ^ 104
    small K h = lt_of_le_of_lt (mul-le-mul_right (2 ^ 87) (mul-le-mul_right t h)) (lit≤ {m = suc (166886 * t * 2 ^ 87)} {n = 2 ^ 53 * 2 ^ 104} tt)

    low_enough : (K : ℕ) → K ≤ 166886 → K * t * 1 ≤ 1 * 2 ^ 104
    low_enough K h = le_trans (mul-le-mul_right 1 (mul-le-mul_right t h)) (lit≤ {m = 166886 * t * 1} {n = 1 * 2 ^ 104} tt)

    spread : (K d : ℕ) → K * t * d * 2 ^ 6 ≡ K * (t * 2 ^ 6) * d
    spread K d = omega arith

    cut : (N a d B C F Q : ℕ) → 0 < Q → 2 * (N * B * (F * Q)) ≤ 2 * (a * d * (F * Q)) + C * Q * d → 2 * (N * B * F) ≤ 2 * (a * d * F) + C * d
    cut N a d B C F Q P h =
        le_of_mul-le-mul_right
        (le_trans (le_of_eq (one (N * B) F Q)) (le_trans h (le_of_eq (ap₂ ◌+◌ (sym (one (a * d) F Q)) (mul_right_comm C Q d) ∙ sym (add-mul (2 * (a * d * F)) (C * d) Q)))))
        P
      where
        one : (x F Q : ℕ) → 2 * (x * F) * Q ≡ 2 * (x * (F * Q))
        one x F Q = simp (mul_assoc)

    cut' : (N a d B C F Q : ℕ) → 0 < Q → 2 * (a * d * (F * Q)) ≤ 2 * (N * B * (F * Q)) + C * Q * d → 2 * (a * d * F) ≤ 2 * (N * B * F) + C * d
    cut' N a d B C F Q P h =
        le_of_mul-le-mul_right
        (le_trans (le_of_eq (one (a * d) F Q)) (le_trans h (le_of_eq (ap₂ ◌+◌ (sym (one (N * B) F Q)) (mul_right_comm C Q d) ∙ sym (add-mul (2 * (N * B * F)) (C * d) Q)))))
        P
      where
        one : (x F Q : ℕ) → 2 * (x * F) * Q ≡ 2 * (x * (F * Q))
        one x F Q = simp (mul_assoc)

    over : (N a d : ℕ) → 2 * (N * 2 ^ 104 * 2 ^ 5) ≤ 2 * (a * d * 2 ^ 5) + 2 ^ 22 * d → N * 2 ^ 110 ≤ a * d * 2 ^ 6 + 2 ^ 22 * d
    over N a d h = omega arith

    under : (N a d : ℕ) → 2 * (a * d * 2 ^ 5) ≤ 2 * (N * 2 ^ 104 * 2 ^ 5) + 2 ^ 22 * d → a * d * 2 ^ 6 ≤ N * 2 ^ 110 + 2 ^ 22 * d
    under N a d h = omega arith

-- ---- the last difference
record Last (d v r : Float) : Type 0 where
  most : 2 * ((above r * (den d * den v) + (below d * den v + num v * den d) * den r) * 2 ^ 51) ≤ 2 * ((above d * den v * den r + below r * (den d * den v)) * 2 ^ 51) + den d * den v * den r
  least : 2 * ((above d * den v * den r + below r * (den d * den v)) * 2 ^ 51) ≤ 2 * ((above r * (den d * den v) + (below d * den v + num v * den d) * den r) * 2 ^ 51) + den d * den v * den r

-- the sum's three ways, by the sign of d; e is the exact size, and n the rounded
less_times : (a b d : ℕ) → b ≤ a → (a - b) * d + b * d ≡ a * d
less_times a b d h = sym (add-mul (a - b) b d) ∙ ap (λ (z : ℕ). z * d) (back a b h)
  where
    back : (a b : ℕ) → b ≤ a → a - b + b ≡ a
    back a b h = omega arith

-- what is rounded is below 4
halved : (s : Bool) (e c : ℕ) → 0 < c → e * 2 ^ 51 < 2 ^ 53 * c → Half 51 e c (round binary64 s e c)
halved s e c C h = half s e c 51 1023 refl C h (round_mag false e c 4 1 4 0 C (lit≤ {m = 1} {n = 1} tt) (at e c h) tt).fine
  where
    at : (e c : ℕ) → e * 2 ^ 51 < 2 ^ 53 * c → e * 1 ≤ 4 * c
    at e c h = omega arith

last_of : (d v : Float) → T (finite d) → T (finite v) → sgn v ≡ false → (num d * den v + num v * den d) * 2 ^ 51 < 2 ^ 53 * (den d * den v) → Last d v (d ⊖ v)
last_of d v fd fv pv small = subst (λ (z : Float). Last d v z) (sym (sub_at d v fd fv ∙ ap (λ (s : Bool). sum binary64 (sgn d) a (not s) b c) pv)) (go (sgn d) refl (ltb a b) (ltb→lt a b) (nltb→le a b))
  where
    a : ℕ
    a = num d * den v

    b : ℕ
    b = num v * den d

    c : ℕ
    c = den d * den v

    C : 0 < c
    C = mul-pos (den_pos d) (den_pos v)

    some : (e a b c : ℕ) → e ≤ a + b → (a + b) * 2 ^ 51 < 2 ^ 53 * c → e * 2 ^ 51 < 2 ^ 53 * c
    some e a b c h g = omega arith

    first : (a b : ℕ) → a - b ≤ a + b
    first a b = omega arith

    second : (a b : ℕ) → b - a ≤ a + b
    second a b = omega arith

    -- r by its sign and d by its sign
    Goal : Bool → Bool → Float → Type 0
    Goal s u r =
        (2 * ((pick u 0 (num r) * c + (pick s (num d) 0 * den v + b) * den r) * 2 ^ 51) ≤ 2 * ((pick s 0 (num d) * den v * den r + pick u (num r) 0 * c) * 2 ^ 51) + c * den r)
        × (2 * ((pick s 0 (num d) * den v * den r + pick u (num r) 0 * c) * 2 ^ 51) ≤ 2 * ((pick u 0 (num r) * c + (pick s (num d) 0 * den v + b) * den r) * 2 ^ 51) + c * den r)

    to_last : (s u : Bool) (r : Float) → sgn d ≡ s → sgn r ≡ u → Goal s u r → Last d v r
    to_last s u r e f g =
        let h : Goal (sgn d) (sgn r) r = subst (λ (x : Bool). Goal x (sgn r) r) (sym e) (subst (λ (x : Bool). Goal s x r) (sym f) g) in
        record { most = h.0; least = h.1 }

    both : (r : Float) → Half 51 (a + b) c r → Goal true true r
    both r h = (up (num r) (a + b) (den r) c h.least, down (num r) (a + b) (den r) c h.most)
      where
        up : (n e d c : ℕ) → 2 * (e * d * 2 ^ 51) ≤ 2 * (n * c * 2 ^ 51) + c * d → 2 * ((0 * c + e * d) * 2 ^ 51) ≤ 2 * ((0 * den v * d + n * c) * 2 ^ 51) + c * d
        up n e d c h = omega arith

        down : (n e d c : ℕ) → 2 * (n * c * 2 ^ 51) ≤ 2 * (e * d * 2 ^ 51) + c * d → 2 * ((0 * den v * d + n * c) * 2 ^ 51) ≤ 2 * ((0 * c + e * d) * 2 ^ 51) + c * d
        down n e d c h = omega arith

    over : (r : Float) → b ≤ a → Half 51 (a - b) c r → Goal false false r
    over r l h = (up (num r) a b (a - b) (den r) (den v) c (less_times a b (den r) l) h.most, down (num r) a b (a - b) (den r) (den v) c (less_times a b (den r) l) h.least)
      where
        up : (n a b e d w c : ℕ) → e * d + b * d ≡ a * d → 2 * (n * c * 2 ^ 51) ≤ 2 * (e * d * 2 ^ 51) + c * d → 2 * ((n * c + (0 * w + b) * d) * 2 ^ 51) ≤ 2 * ((a * d + 0 * c) * 2 ^ 51) + c * d
        up n a b e d w c q h = omega arith

        down : (n a b e d w c : ℕ) → e * d + b * d ≡ a * d → 2 * (e * d * 2 ^ 51) ≤ 2 * (n * c * 2 ^ 51) + c * d → 2 * ((a * d + 0 * c) * 2 ^ 51) ≤ 2 * ((n * c + (0 * w + b) * d) * 2 ^ 51) + c * d
        down n a b e d w c q h = omega arith

    under : (r : Float) → a ≤ b → Half 51 (b - a) c r → Goal false true r
    under r l h = (up (num r) a b (b - a) (den r) (den v) c (less_times b a (den r) l) h.least, down (num r) a b (b - a) (den r) (den v) c (less_times b a (den r) l) h.most)
      where
        up : (n a b e d w c : ℕ) → e * d + a * d ≡ b * d → 2 * (e * d * 2 ^ 51) ≤ 2 * (n * c * 2 ^ 51) + c * d → 2 * ((0 * c + (0 * w + b) * d) * 2 ^ 51) ≤ 2 * ((a * d + n * c) * 2 ^ 51) + c * d
        up n a b e d w c q h = omega arith

        down : (n a b e d w c : ℕ) → e * d + a * d ≡ b * d → 2 * (n * c * 2 ^ 51) ≤ 2 * (e * d * 2 ^ 51) + c * d → 2 * ((a * d + n * c) * 2 ^ 51) ≤ 2 * ((0 * c + (0 * w + b) * d) * 2 ^ 51) + c * d
        down n a b e d w c q h = omega arith

    go : (s : Bool) → sgn d ≡ s → (t : Bool) → (T t → a < b) → (T (not t) → b ≤ a) → Last d v (sum binary64 (sgn d) a true b c)
    go true e t f g =
        subst (λ (x : Bool). Last d v (sum binary64 x a true b c)) (sym e)
        (subst (λ (z : Float). Last d v z) (sym (sum_both true a b c))
        (to_last true true (round binary64 true (a + b) c) e (round_sgn true (a + b) c) (both (round binary64 true (a + b) c) (halved true (a + b) c C small))))
    go false e true f g =
        subst (λ (x : Bool). Last d v (sum binary64 x a true b c)) (sym e)
        (subst (λ (z : Float). Last d v z) (sym (sum_under false a b c (f tt)))
        (to_last false true (round binary64 true (b - a) c) e (round_sgn true (b - a) c) (under (round binary64 true (b - a) c) (le_of_lt (f tt)) (halved true (b - a) c C (some (b - a) a b c (second a b) small)))))
    go false e false f g =
        subst (λ (x : Bool). Last d v (sum binary64 x a true b c)) (sym e)
        (subst (λ (z : Float). Last d v z) (sym (sum_over a b c (g tt)))
        (to_last false false (round binary64 false (a - b) c) e (round_sgn false (a - b) c) (over (round binary64 false (a - b) c) (g tt) (halved false (a - b) c C (some (a - b) a b c (first a b) small)))))

-- ---- together, over variables: a, b, p, m and n are the parts of r, of d and v, times 2 ^ 110
together_most : (a b p m n X Y k e f dd dv dr : ℕ) → 0 < dd → 0 < dv → a * (dd * dv) + (m * dv + n * dd) * dr ≤ p * dv * dr + b * (dd * dv) + e * (dd * dv * dr)
    → p + Y * dd ≡ X * dd + m → k * dv ≤ n + f * dv → a + (Y + k) * dr ≤ X * dr + b + (e + f) * dr
together_most a b p m n X Y k e f dd dv dr D O h g l =
    let x : (p + Y * dd) * (dv * dr) ≡ (X * dd + m) * (dv * dr) = ap (λ (z : ℕ). z * (dv * dr)) g in
    let y : k * dv * (dd * dr) ≤ (n + f * dv) * (dd * dr) = mul-le-mul_right (dd * dr) l in
    le_of_mul-le-mul_right (at a b p m n X Y k e f dd dv dr h x y) (mul-pos D O)
  where
    at : (a b p m n X Y k e f dd dv dr : ℕ) → a * (dd * dv) + (m * dv + n * dd) * dr ≤ p * dv * dr + b * (dd * dv) + e * (dd * dv * dr) → (p + Y * dd) * (dv * dr) ≡ (X * dd + m) * (dv * dr) → k * dv * (dd * dr) ≤ (n + f * dv) * (dd * dr)
        → (a + (Y + k) * dr) * (dd * dv) ≤ (X * dr + b + (e + f) * dr) * (dd * dv)
    at a b p m n X Y k e f dd dv dr h x y = omega arith

together_least : (a b p m n X Y k e f dd dv dr : ℕ) → 0 < dd → 0 < dv → p * dv * dr + b * (dd * dv) ≤ a * (dd * dv) + (m * dv + n * dd) * dr + e * (dd * dv * dr)
    → p + Y * dd ≡ X * dd + m → n ≤ k * dv + f * dv → X * dr + b ≤ a + (Y + k) * dr + (e + f) * dr
together_least a b p m n X Y k e f dd dv dr D O h g l =
    let x : (p + Y * dd) * (dv * dr) ≡ (X * dd + m) * (dv * dr) = ap (λ (z : ℕ). z * (dv * dr)) g in
    let y : n * (dd * dr) ≤ (k * dv + f * dv) * (dd * dr) = mul-le-mul_right (dd * dr) l in
    le_of_mul-le-mul_right (at a b p m n X Y k e f dd dv dr h x y) (mul-pos D O)
  where
    at : (a b p m n X Y k e f dd dv dr : ℕ) → p * dv * dr + b * (dd * dv) ≤ a * (dd * dv) + (m * dv + n * dd) * dr + e * (dd * dv * dr) → (p + Y * dd) * (dv * dr) ≡ (X * dd + m) * (dv * dr) → n * (dd * dr) ≤ (k * dv + f * dv) * (dd * dr)
        → (X * dr + b) * (dd * dv) ≤ (a + (Y + k) * dr + (e + f) * dr) * (dd * dv)
    at a b p m n X Y k e f dd dv dr h x y = omega arith

-- from halves of 2 ^ -51 to units of 2 ^ -110, with the powers as variables: W is 2·H·S
scaled_up : (P Q R H S : ℕ) → 2 * (P * H) ≤ 2 * (Q * H) + R → P * (2 * H * S) ≤ Q * (2 * H * S) + S * R
scaled_up P Q R H S h = at P Q R H S (mul-le-mul_right S h)
  where
    at : (P Q R H S : ℕ) → 2 * (P * H) * S ≤ (2 * (Q * H) + R) * S → P * (2 * H * S) ≤ Q * (2 * H * S) + S * R
    at P Q R H S h = omega arith

spread : (a m n p b W dd dv dr e : ℕ) → (a * (dd * dv) + (m * dv + n * dd) * dr) * W ≤ (p * dv * dr + b * (dd * dv)) * W + e * (dd * dv * dr)
    → a * W * (dd * dv) + (m * W * dv + n * W * dd) * dr ≤ p * W * dv * dr + b * W * (dd * dv) + e * (dd * dv * dr)
spread a m n p b W dd dv dr e h = omega arith

spread' : (a m n p b W dd dv dr e : ℕ) → (p * dv * dr + b * (dd * dv)) * W ≤ (a * (dd * dv) + (m * dv + n * dd) * dr) * W + e * (dd * dv * dr)
    → p * W * dv * dr + b * W * (dd * dv) ≤ a * W * (dd * dv) + (m * W * dv + n * W * dd) * dr + e * (dd * dv * dr)
spread' a m n p b W dd dv dr e h = omega arith

-- the exact difference, in units of 2 ^ -110: W is H-as-Z
finer : (p m X Y d H Z : ℕ) → p * H + Y * d ≡ X * d + m * H → p * (H * Z) + Y * Z * d ≡ X * Z * d + m * (H * Z)
finer p m X Y d H Z e = at p m X Y d H Z (ap (λ (z : ℕ). z * Z) e)
  where
    at : (p m X Y d H Z : ℕ) → (p * H + Y * d) * Z ≡ (X * d + m * H) * Z → p * (H * Z) + Y * Z * d ≡ X * Z * d + m * (H * Z)
    at p m X Y d H Z e = omega arith

-- K·2π for K·(T + t): the digits of t are 8 units off
turn_most : (a K c y X b dr E : ℕ) → K * c ≤ y → a + y * dr ≤ X * dr + b + E * dr → a + K * c * dr ≤ X * dr + b + E * dr
turn_most a K c y X b dr E h g = let x : K * c * dr ≤ y * dr = mul-le-mul_right dr h in omega arith

turn_least : (a K c y X b dr E f : ℕ) → y ≤ K * c + f → X * dr + b ≤ a + y * dr + E * dr → X * dr + b ≤ a + K * c * dr + (E + f) * dr
turn_least a K c y X b dr E f h g = let x : y * dr ≤ (K * c + f) * dr = mul-le-mul_right dr h in omega (arith, x)

-- x for X: X·dx is num x·H, and W is H-as-Z
back_most : (a b W k X Z n H dx dr E : ℕ) → W ≡ H * Z → n * H ≡ X * dx → a * W + k * dr ≤ X * Z * dr + b * W + E * dr → a * dx * W + k * (dx * dr) ≤ n * dr * W + b * dx * W + E * (dx * dr)
back_most a b W k X Z n H dx dr E w e h =
    le_trans (le_of_eq (left a W k dx dr)) (le_trans (mul-le-mul_right dx h) (le_of_eq (right X Z b W E dx dr ∙ ap (λ (z : ℕ). z * (Z * dr) + b * dx * W + E * (dx * dr)) (sym e) ∙ ap (λ (z : ℕ). z + b * dx * W + E * (dx * dr)) (shift n H Z dr ∙ ap (λ (z : ℕ). n * dr * z) (sym w)))))
  where
    left : (a W k dx dr : ℕ) → a * dx * W + k * (dx * dr) ≡ (a * W + k * dr) * dx
    left a W k dx dr = omega arith

    right : (X Z b W E dx dr : ℕ) → (X * Z * dr + b * W + E * dr) * dx ≡ X * dx * (Z * dr) + b * dx * W + E * (dx * dr)
    right X Z b W E dx dr = omega arith

    shift : (n H Z dr : ℕ) → n * H * (Z * dr) ≡ n * dr * (H * Z)
    shift n H Z dr = simp (mul_assoc, mul_comm, mul_left_comm)

back_least : (a b W k X Z n H dx dr E : ℕ) → W ≡ H * Z → n * H ≡ X * dx → X * Z * dr + b * W ≤ a * W + k * dr + E * dr → n * dr * W + b * dx * W ≤ a * dx * W + k * (dx * dr) + E * (dx * dr)
back_least a b W k X Z n H dx dr E w e h =
    le_trans (le_of_eq (sym (right X Z b W dx dr ∙ ap (λ (z : ℕ). z * (Z * dr) + b * dx * W) (sym e) ∙ ap (λ (z : ℕ). z + b * dx * W) (shift n H Z dr ∙ ap (λ (z : ℕ). n * dr * z) (sym w))))) (le_trans (mul-le-mul_right dx h) (le_of_eq (left a W k E dx dr)))
  where
    left : (a W k E dx dr : ℕ) → (a * W + k * dr + E * dr) * dx ≡ a * dx * W + k * (dx * dr) + E * (dx * dr)
    left a W k E dx dr = omega arith

    right : (X Z b W dx dr : ℕ) → (X * Z * dr + b * W) * dx ≡ X * dx * (Z * dr) + b * dx * W
    right X Z b W dx dr = omega arith

    shift : (n H Z dr : ℕ) → n * H * (Z * dr) ≡ n * dr * (H * Z)
    shift n H Z dr = simp (mul_assoc, mul_comm, mul_left_comm)

-- ---- with a turn and more
some_turns : (turn : ℕ) → two_pi ≤ turn → turn ≤ two_pi + 1 → (x d v : Float) (K X : ℕ) → T (finite d) → T (finite v) → K ≤ 166886 → num x * 2 ^ 51 ≡ X * den x → above d * 2 ^ 51 + K * tau_count * den d ≡ X * den d + below d * 2 ^ 51 → Product K v → Last d v (d ⊖ v) → Accurate turn K x (d ⊖ v)
some_turns turn lo hi x d v K X fd fv few ex ed pv lv =
    let r = d ⊖ v in
    let W = 2 ^ 110 in
    let k = K * (t * 2 ^ 6) in
    let Y = K * tau_count in
    let g = finer (above d) (below d) X Y (den d) (2 ^ 51) (2 ^ 59) ed in
    let m : above r * W + (Y * 2 ^ 59 + k) * den r ≤ X * 2 ^ 59 * den r + below r * W + (2 ^ 58 + 2 ^ 22) * den r =
    together_most (above r * W) (below r * W) (above d * W) (below d * W) (num v * W) (X * 2 ^ 59) (Y * 2 ^ 59) k (2 ^ 58) (2 ^ 22) (den d) (den v) (den r) (den_pos d) (den_pos v)
    (spread (above r) (below d) (num v) (above d) (below r) W (den d) (den v) (den r) (2 ^ 58)
    (scaled_up (above r * (den d * den v) + (below d * den v + num v * den d) * den r) (above d * den v * den r + below r * (den d * den v)) (den d * den v * den r) (2 ^ 51) (2 ^ 58) lv.most))
    g pv.least in
    let l : X * 2 ^ 59 * den r + below r * W ≤ above r * W + (Y * 2 ^ 59 + k) * den r + (2 ^ 58 + 2 ^ 22) * den r =
    together_least (above r * W) (below r * W) (above d * W) (below d * W) (num v * W) (X * 2 ^ 59) (Y * 2 ^ 59) k (2 ^ 58) (2 ^ 22) (den d) (den v) (den r) (den_pos d) (den_pos v)
    (spread' (above r) (below d) (num v) (above d) (below r) W (den d) (den v) (den r) (2 ^ 58)
    (scaled_up (above d * den v * den r + below r * (den d * den v)) (above r * (den d * den v) + (below d * den v + num v * den d) * den r) (den d * den v * den r) (2 ^ 51) (2 ^ 58) lv.least))
    g pv.most in
    record {
      most = wider (above r * den x * W + K * turn * (den x * den r)) (num x * den r * W) (below r * den x * W) (den x * den r) (back_most (above r) (below r) W (K * turn) X (2 ^ 59) (num x) (2 ^ 51) (den x) (den r) (2 ^ 58 + 2 ^ 22) refl ex
          (turn_most (above r * W) K turn (Y * 2 ^ 59 + k) (X * 2 ^ 59) (below r * W) (den r) (2 ^ 58 + 2 ^ 22) (nearly K) m));
      least = back_least (above r) (below r) W (K * turn) X (2 ^ 59) (num x) (2 ^ 51) (den x) (den r) (2 ^ 58 + 2 ^ 22 + 1335088) refl ex
          (turn_least (above r * W) K turn (Y * 2 ^ 59 + k) (X * 2 ^ 59) (below r * W) (den r) (2 ^ 58 + 2 ^ 22) 1335088 (at_least K few) l);
    }
  where
    eight : (K : ℕ) → K * tau_count * 2 ^ 59 + K * (t * 2 ^ 6) ≡ K * two_pi + 8 * K
    eight K = omega arith

    nearly : (K : ℕ) → K * turn ≤ K * tau_count * 2 ^ 59 + K * (t * 2 ^ 6)
    nearly K = le_trans (up (K * turn) (K * two_pi) K (le_trans (mul-le-mul_left K hi) (le_of_eq (mul-add K two_pi 1)))) (le_of_eq (sym (eight K)))
      where
        up : (a b K : ℕ) → a ≤ b + K * 1 → a ≤ b + 8 * K
        up a b K h = omega arith

    at_least : (K : ℕ) → K ≤ 166886 → K * tau_count * 2 ^ 59 + K * (t * 2 ^ 6) ≤ K * turn + 1335088
    at_least K h = le_trans (le_of_eq (eight K)) (add (K * two_pi) (K * turn) K h (mul-le-mul_left K lo))
      where
        add : (a b K : ℕ) → K ≤ 166886 → a ≤ b → a + 8 * K ≤ b + 1335088
        add a b K h g = omega arith

    wider : (A B C D : ℕ) → A ≤ B + C + (2 ^ 58 + 2 ^ 22) * D → A ≤ B + C + most_parts * D
    wider A B C D h = omega arith

-- ---- for every f64 from 0 to 2 ^ 20
no_turns_accurate : (turn : ℕ) (x r : Float) → sgn x ≡ false → r ≡ x → Accurate turn 0 x r
no_turns_accurate turn x r s e = subst (λ (z : Float). Accurate turn 0 x z) (sym e) (record { most = at (sgn x) s; least = at' (sgn x) s })
  where
    none : 0 * turn * (den x * den x) ≡ 0
    none = ap (λ (n : ℕ). n * (den x * den x)) (zero-mul turn) ∙ zero-mul (den x * den x)

    at : (b : Bool) → b ≡ false → pick b 0 (num x) * den x * 2 ^ 110 + 0 * turn * (den x * den x) ≤ num x * den x * 2 ^ 110 + pick b (num x) 0 * den x * 2 ^ 110 + most_parts * (den x * den x)
    at true f = absurd (subst (λ (z : Bool). T (not z)) (sym f) tt)
    at false f = go (num x * den x * 2 ^ 110) (0 * turn * (den x * den x)) (0 * den x * 2 ^ 110) (most_parts * (den x * den x)) none
      where
        go : (a b c d : ℕ) → b ≡ 0 → a + b ≤ a + c + d
        go a b c d e = omega arith

    at' : (b : Bool) → b ≡ false → num x * den x * 2 ^ 110 + pick b (num x) 0 * den x * 2 ^ 110 ≤ pick b 0 (num x) * den x * 2 ^ 110 + 0 * turn * (den x * den x) + most_parts * (den x * den x)
    at' true f = absurd (subst (λ (z : Bool). T (not z)) (sym f) tt)
    at' false f = go (num x * den x * 2 ^ 110) (den x) (0 * turn * (den x * den x)) (most_parts * (den x * den x))
      where
        go : (a b c d : ℕ) → a + 0 * b * 2 ^ 110 ≤ a + c + d
        go a b c d = omega arith

pub accurate : (turn : ℕ) → two_pi ≤ turn → turn ≤ two_pi + 1 → (x : Float) → T (fits binary64 x) → Mag (2 ^ 20) 0 x → sgn x ≡ false → Accurate turn (nearest_size (x ⊘ tau)) x (reduce x)
accurate turn lo hi x ft h s = go (nearest_size (x ⊘ tau)) refl
  where
    few : nearest_size (x ⊘ tau) ≤ 166886
    few = (turns_of x h).most

    close : (nd dd nv dv : ℕ) → 0 < dd → 0 < dv → nd * 2 ^ 51 ≤ half_turn * dd → nv * 2 ^ 30 ≤ 1 * dv → (nd * dv + nv * dd) * 2 ^ 51 < 2 ^ 53 * (dd * dv)
    close nd dd nv dv D O a b =
        let x : nd * 2 ^ 51 * dv ≤ half_turn * dd * dv = mul-le-mul_right dv a in
        let y : nv * 2 ^ 30 * dd ≤ 1 * dv * dd = mul-le-mul_right dd b in
        let z : 0 < dd * dv = mul-pos D O in
        omega (arith, x, y, z)

    go : (K : ℕ) → nearest_size (x ⊘ tau) ≡ K → Accurate turn (nearest_size (x ⊘ tau)) x (reduce x)
    go zero e = subst (λ (K : ℕ). Accurate turn K x (reduce x)) (sym e) (no_turns_accurate turn x (reduce x) s (no_turn_same x ft h e))
    go (suc n) e = unfold reduce less_turns in
        (let K = nearest_size (x ⊘ tau) in
        let P : 0 < K = subst (λ (z : ℕ). 0 < z) (sym e) (up n) in
        let k = nearest_whole (x ⊘ tau) in
        let q : k ≡ of_int binary64 (signed false K) = k_is x h ∙ ap (λ (b : Bool). of_int binary64 (signed b K)) s in
        let ki : Is 0 k (pos K) = subst (λ (z : Float). Is 0 z (pos K)) (sym q) (whole_is false K few) in
        let km : Mag 166886 0 k = subst (λ (z : Float). Mag 166886 0 z) (sym q) (whole_mag false K few) in
        let d = x ⊖ k ⊗ tau_high ⊖ k ⊗ (tau ⊖ tau_high) in
        let v = k ⊗ tau_low in
        let l = left_is x ft h P in
        let di : Is 51 d (pos l.X -ℤ pos (K * tau_count)) = subst (λ (b : Bool). Is 51 d (signed b l.X -ℤ signed b (K * tau_count))) s l.value in
        let dm : Mag half_turn 51 d = l.most in
        let vm : Mag 1 30 v = mul_mag km (in_mag low_exact) tt in
        let pv : Product K v = product_of K k P few ki in
        some_turns turn lo hi x d v K l.X dm.fine vm.fine few l.is (parts_exact d l.X (K * tau_count) di) pv
        (last_of d v dm.fine vm.fine pv.plain (close (num d) (den d) (num v) (den v) (den_pos d) (den_pos v) dm.most vm.most)))
      where
        up : (n : ℕ) → 0 < suc n
        up n = omega arith
