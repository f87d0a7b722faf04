-- atan of every x that is no NaN is finite, at most 2 in size; asin of an x within -1..1 and atan2 of any two numbers are at most 8. Assumes nothing.
use mathlib.Core.Path.{◌≡◌, refl, sym, ap, ◌∙◌, subst}
use Prim.Native.Nat.{ℕ, zero, suc, ◌+◌, ◌*◌, ◌^◌, ◌<◌}
use native.Mathlib.Nat.{lt_of_lt_of_le, mul-le-mul_left, mul-pos, zero-lt-suc}
use mathlib.Core.Bool.{Bool, true, false, not, ◌&&◌, ◌||◌, cond, true≢false}
use lib.Dec.{T, ltb, eqb, T_not}
use lib.IntN.{pos}
use lib.Ieee.{Float, nan, inf, fin, Format, binary64, prec, emax, low, unlike, up, down, odd, units, round, div, lt, of_int, of_bits, is_nan}
use lib.Ieee.Fits.{and_l, and_r, down_pos, round_is}
use lib.Ieee.Order.{drop, kept}
use lib.Ieee.Scale.{finite}
use lib.Ieee.Positive.{num, den, den_pos, first_pos}
use Rattle.ieee.specs.Operators.{◌⊕◌, ◌⊖◌, ◌⊗◌, ◌⊘◌}
use Rattle.ieee.specs.Functions.{zero_f, one, is_inf, is_zero, abs, three, four}
use Rattle.ieee.specs.Range.{Mag, In, sgn, plus, wider, at_most, inb}
use Rattle.ieee.proofs.Signs.{finite_number}
use Rattle.ieee.proofs.Range.Laws.{plus_finite, plus_sgn, in_lit, in_mag, in_up, mag_up, zero_under, mul_mag, mul_in, sq_in, neg_mag, abs_in, div_is}
use Rattle.ieee.proofs.Range.Constants.{zero_in, zero_mag, one_in, one_mag, two_in}
use Rattle.ieee.proofs.Range.Sums.{add_mag, sub_mag, add_in, sub_in}
use Rattle.ieee.proofs.Range.Quotients.{div_mag, div_in}
use Rattle.ieee.proofs.Range.Tests.{choose, cond_mag, lt_in, nlt_most}
use Rattle.math_root.specs.Root.{sqrt}
use Rattle.math_root.proofs.Range.{sqrt_in}
use Rattle.math_trig.specs.Angles.{pi, half_pi, quarter_pi}
use Rattle.math_atan.specs.Atan.{with_sign, half_angle, atan_series, atan_poly, atan_abs, atan, asin, turned, atan2}

-- ---- constants
three_in : In 3 0 3 0 three
unfolding of_bits
three_in = in_lit three tt

four_in : In 4 0 4 0 four
unfolding of_bits
four_in = in_lit four tt

pub pi_in : In 3 0 4 0 pi
unfolding of_bits
pi_in = in_lit pi tt

pub pi_mag : Mag 4 0 pi
pi_mag = in_mag pi_in

pub half_pi_in : In 3 1 2 0 half_pi
unfolding of_bits
half_pi_in = in_lit half_pi tt

pub quarter_pi_in : In 3 2 1 0 quarter_pi
unfolding of_bits
quarter_pi_in = in_lit quarter_pi tt

pub three_quarters : In 2 0 3 0 (three ⊗ quarter_pi)
three_quarters = mul_in three_in quarter_pi_in tt

-- ---- the series: with z from 0 to 1/16, p is kept from 0 to 1/2, and the last p is from 1/2 to 1
-- 1/(2m+1) is from 1/32 to 1/2 for each m that is left but 0
abbrev quotients : ℕ → Bool
quotients zero = true
quotients (suc m) = inb 1 5 1 1 (one ⊘ of_int binary64 (pos (2 * suc m + 1))) && quotients m

all_quotients : T (quotients 12)
unfolding of_int of_bits div
all_quotients = tt

last_quotient : In 1 0 1 0 (one ⊘ of_int binary64 (pos (2 * 0 + 1)))
unfolding of_int of_bits div
last_quotient = in_lit (one ⊘ of_int binary64 (pos (2 * 0 + 1))) tt

series_in : (m : ℕ) (z p : Float) → T (quotients m) → In 0 0 1 4 z → In 0 0 1 1 p → In 1 1 1 0 (atan_series (suc m) z p)
unfolding atan_series
series_in zero z p t Z H = sub_in last_quotient (product_in Z H) tt
  where
    product_in : {z p : Float} → In 0 0 1 4 z → In 0 0 1 1 p → In 0 0 1 5 (z ⊗ p)
    product_in Z H = mul_in Z H tt
series_in (suc m) z p t Z H =
    let q = one ⊘ of_int binary64 (pos (2 * suc m + 1)) in
    let Q : In 1 5 1 1 q = in_lit q (and_l (inb 1 5 1 1 q) (quotients m) t) in
    let b : In 0 0 1 5 (z ⊗ p) = mul_in Z H tt in
    let n : In 0 0 1 1 (q ⊖ z ⊗ p) = sub_in Q b tt in
    series_in m z (q ⊖ z ⊗ p) (and_r (inb 1 5 1 1 q) (quotients m) t) Z n

poly_in : {t : Float} → In 0 0 1 2 t → In 0 0 1 0 (atan_poly t)
unfolding atan_poly
poly_in {t} h =
    let z : In 0 0 1 4 (t ⊗ t) = mul_in h h tt in
    let p : In 1 1 1 0 (atan_series 13 (t ⊗ t) zero_f) = series_in 12 (t ⊗ t) zero_f all_quotients z (in_up zero_in tt) in
    let a : In 0 0 1 2 (t ⊗ atan_series 13 (t ⊗ t) zero_f) = mul_in h p tt in
    mul_in four_in a tt

-- ---- the half angle: from 1/2^j to half of it
half_angle_in : {j k : ℕ} {t : Float} → In 0 0 1 j t → T (wider 1 j 1 0) → T (at_most 1 (2 ^ j * 2) 1 k) → In 0 0 1 k (half_angle t)
unfolding half_angle
half_angle_in {t = t} h u v =
    let z : In 0 0 1 0 (t ⊗ t) = sq_in (mag_up {q = 1} {k = 0} (in_mag h) u) tt in
    let a : In 1 0 2 0 (one ⊕ t ⊗ t) = add_in one_in z tt in
    let r : In 1 0 3 1 (sqrt (one ⊕ t ⊗ t)) = sqrt_in a tt in
    let s : In 2 0 5 1 (one ⊕ sqrt (one ⊕ t ⊗ t)) = add_in one_in r tt in
    div_in h s v

reach : {t : Float} → In 0 0 1 0 t → In 0 0 1 0 (atan_poly (half_angle (half_angle t)))
reach {t} h =
    let a : In 0 0 1 1 (half_angle t) = half_angle_in h tt tt in
    poly_in (half_angle_in a tt tt)

-- ---- the sign of what is rounded
units_sign : (f : Format) (s : Bool) (q k : ℕ) → sgn (units f s q k) ≡ s
unfolding units odd
units_sign f s q k = go (ltb (q * 2 ^ k) (2 ^ (low f + suc (emax f)))) q
  where
    go : (b : Bool) (q : ℕ) → sgn (cond b (odd (suc (prec f)) s q k (low f)) (inf s)) ≡ s
    go true zero = refl
    go true (suc q) = refl
    go false q = refl

pub round_sign : (f : Format) (s : Bool) (N D : ℕ) → sgn (round f s N D) ≡ s
round_sign f s N D = ap sgn (round_is f s N D) ∙ units_sign f s (kept (prec f) (N * 2 ^ low f) D) (drop (prec f) (N * 2 ^ low f) D)

clear_plus : (x : Float) → T (finite x) → sgn x ≡ false → T (plus x)
clear_plus nan f e = absurd f
clear_plus (inf s) f e = absurd f
clear_plus (fin true m d) f e = absurd (true≢false e)
clear_plus (fin false m d) f e = tt

-- 1/a for an a of 1 or more
over_in : {p j : ℕ} {a : Float} → In 1 0 p j a → In 0 0 1 0 (one ⊘ a)
over_in {a = a} h =
    let q : Mag 1 0 (one ⊘ a) = div_mag (in_mag one_in) h tt in
    let above : 0 < num a = first_pos (num a) 1 (lt_of_lt_of_le (mul-pos (zero-lt-suc 0) (den_pos a)) h.least) in
    let sign : sgn (one ⊘ a) ≡ false = ap sgn (div_is one a one_mag.fine (plus_finite a h.sign) above) ∙ round_sign binary64 (unlike (sgn one) (sgn a)) (num one * den a) (num a * den one) ∙ ap (unlike (sgn one)) (plus_sgn a h.sign) ∙ clear_one in
    record { sign = clear_plus (one ⊘ a) q.fine sign; least = zero_under (den (one ⊘ a)) (num (one ⊘ a) * 1); most = q.most }
  where
    clear_one : unlike (sgn one) false ≡ false
    clear_one = unfold of_bits in refl

-- ---- atan
-- a finite, not negative
atan_abs_in : {p j : ℕ} {a : Float} → In 0 0 p j a → In 0 0 2 0 (atan_abs a)
unfolding atan_abs
atan_abs_in {a = a} h =
    choose (λ z. In 0 0 2 0 z) (lt one a) (half_pi ⊖ atan_poly (half_angle (half_angle (one ⊘ a)))) (atan_poly (half_angle (half_angle a)))
    (λ t. sub_in half_pi_in (reach (over_in (lt_in one_in (in_mag h) t))) tt)
    (λ t. in_up (reach (nlt_most one_in h t)) tt)

-- 1 / ∞ is 0
at_infinity : In 0 0 2 0 (atan_abs (inf false))
unfolding atan_abs
at_infinity =
    choose (λ z. In 0 0 2 0 z) (lt one (inf false)) (half_pi ⊖ atan_poly (half_angle (half_angle (one ⊘ inf false)))) (atan_poly (half_angle (half_angle (inf false))))
    (λ t. sub_in half_pi_in (reach over) tt)
    (λ t. absurd (no t))
  where
    over : In 0 0 1 0 (one ⊘ inf false)
    over = unfold of_bits div in in_lit (fin false 0 (pos 0)) tt

    no : T (not (lt one (inf false))) → ⊥
    no t = unfold of_bits lt in t

-- any finite value has some bound
some_mag : (x : Float) → T (finite x) → Mag (num x) 0 x
some_mag nan f = absurd f
some_mag (inf s) f = absurd f
some_mag (fin s m e) f = record { fine = tt; most = mul-le-mul_left (m * up e) (down_pos e) }

-- the size of atan x, whose sign is then x's
pub atan_size : (x : Float) → T (not (is_nan x)) → In 0 0 2 0 (atan_abs (abs x))
unfolding is_nan abs
atan_size nan t = absurd t
atan_size (inf s) t = at_infinity
atan_size (fin s m e) t = abs_size
  where
    abs_size : In 0 0 2 0 (atan_abs (fin false m e))
    abs_size = unfold abs in atan_abs_in (abs_in (some_mag (fin s m e) tt))

signed : {p : ℕ} (s : Bool) {v : Float} → Mag p 0 v → Mag p 0 (with_sign s v)
unfolding with_sign
signed true h = neg_mag h
signed false h = h

pub atan_mag : (x : Float) → T (not (is_nan x)) → Mag 2 0 (atan x)
unfolding atan is_nan
atan_mag nan t = absurd t
atan_mag (inf s) t = signed _ (in_mag (atan_size (inf s) t))
atan_mag (fin s m e) t = signed _ (in_mag (atan_size (fin s m e) t))

-- ---- asin, for |x| ≤ 1
pub asin_mag : (x : Float) → Mag 1 0 x → Mag 8 0 (asin x)
unfolding asin
asin_mag x h =
    let z : In 0 0 1 0 (x ⊗ x) = sq_in h tt in
    let a : In 0 0 1 0 (one ⊖ x ⊗ x) = sub_in one_in z tt in
    let r : In 0 0 1 0 (sqrt (one ⊖ x ⊗ x)) = sqrt_in a tt in
    let s : In 1 0 2 0 (one ⊕ sqrt (one ⊖ x ⊗ x)) = add_in one_in r tt in
    let q : Mag 1 0 (x ⊘ (one ⊕ sqrt (one ⊖ x ⊗ x))) = div_mag h s tt in
    mul_mag (in_mag two_in) (atan_mag (x ⊘ (one ⊕ sqrt (one ⊖ x ⊗ x))) (finite_number (x ⊘ (one ⊕ sqrt (one ⊖ x ⊗ x))) q.fine)) tt

-- ---- what is rounded is no NaN
units_number : (f : Format) (s : Bool) (q k : ℕ) → T (not (is_nan (units f s q k)))
unfolding units odd is_nan
units_number f s q k = go (ltb (q * 2 ^ k) (2 ^ (low f + suc (emax f)))) q
  where
    go : (b : Bool) (q : ℕ) → T (not (is_nan (cond b (odd (suc (prec f)) s q k (low f)) (inf s))))
    go true zero = tt
    go true (suc q) = tt
    go false q = tt

round_number : (f : Format) (s : Bool) (N D : ℕ) → T (not (is_nan (round f s N D)))
round_number f s N D = subst (λ (x : Float). T (not (is_nan x))) (sym (round_is f s N D)) (units_number f s (kept (prec f) (N * 2 ^ low f) D) (drop (prec f) (N * 2 ^ low f) D))

-- a quotient of two numbers that are neither both zero nor both infinite
pub div_number : (y x : Float) → T (not (is_nan y)) → T (not (is_nan x)) → T (not (is_inf y)) → T (not (is_inf x)) → T (not (is_zero x)) → T (not (is_nan (y ⊘ x)))
unfolding div is_nan
div_number nan x a b c d e = absurd a
div_number (inf s) x a b c d e = absurd c
div_number (fin s m k) nan a b c d e = absurd b
div_number (fin s m k) (inf t) a b c d e = absurd d
div_number (fin s m k) (fin t n l) a b c d e = go (eqb n 0) e
  where
    go : (b : Bool) → T (not b) → T (not (is_nan (cond b (cond (eqb m 0) nan (inf (unlike s t))) (round binary64 (unlike s t) (m * up k * down l) (n * up l * down k)))))
    go true u = absurd u
    go false u = round_number binary64 (unlike s t) (m * up k * down l) (n * up l * down k)

-- ---- atan2
turned_mag : {q : Float} (y x : Float) → Mag 2 0 q → Mag 8 0 (turned q y x)
unfolding turned
turned_mag y x h = cond_mag (lt x zero_f && lt zero_f y) (add_mag h pi_mag tt) (cond_mag (lt x zero_f && lt y zero_f) (sub_mag h pi_mag tt) (mag_up h tt))

-- a chain of tests, each with what it says
pub neither : (a b : Bool) → T (not (a || b)) → T (not a) × T (not b)
neither true b t = absurd t
neither false b t = (tt, t)

pub not_either : (a b : Bool) → T (not a) → T (not b) → T (a || b) → ⊥
not_either true b p q t = p
not_either false b p q t = T_not b q t

pick : {x y : Float} (b : Bool) → (T b → Mag 8 0 x) → (T (not b) → Mag 8 0 y) → Mag 8 0 (cond b x y)
pick true f g = f tt
pick false f g = g tt

pub atan2_mag : (y x : Float) → T (not (is_nan y)) → T (not (is_nan x)) → Mag 8 0 (atan2 y x)
unfolding atan2
atan2_mag y x ny nx =
    pick (is_nan y || is_nan x) (λ t. absurd (not_either (is_nan y) (is_nan x) ny nx t))
    (λ _. pick (is_inf y && is_inf x) (λ _. signed _ (cond_mag (sgn x) (mag_up (in_mag three_quarters) tt) (mag_up (in_mag quarter_pi_in) tt)))
    (λ _. pick (is_zero y || is_inf x) (λ _. signed _ (cond_mag (sgn x) (mag_up pi_mag tt) (mag_up zero_mag tt)))
    (λ a. pick (is_zero x || is_inf y) (λ _. signed _ (mag_up (in_mag half_pi_in) tt))
    (λ b.
    let p = neither (is_zero y) (is_inf x) a in
    let q = neither (is_zero x) (is_inf y) b in
    turned_mag y x (atan_mag (y ⊘ x) (div_number y x ny nx q.1 p.1 q.0))))))
