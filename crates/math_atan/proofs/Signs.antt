-- atan has the sign of x and atan2 that of y, in every case. Assumes nothing.
use mathlib.Core.Path.{◌≡◌, refl, sym, ap, ◌∙◌}
use Prim.Native.Nat.{ℕ, zero, suc, ◌+◌, ◌-◌, ◌*◌, ◌≤◌, ◌<◌}
use native.Mathlib.Nat.{lt_irrefl, mul-le-mul_right, mul-pos}
use native.Mathlib.Omega.{arith}
use mathlib.Core.Bool.{Bool, true, false, not, ◌&&◌, ◌||◌, beq, cond, true≢false}
use borrow.Author.Tests.{lt-ltb, le-ltb}
use lib.Dec.{T, ltb, eqb}
use lib.Ieee.{Float, nan, inf, fin, binary64, unlike, up, down, round, sum, neg, div, lt, is_nan, of_bits}
use lib.Ieee.Fits.{up_pos}
use lib.Ieee.Scale.{finite}
use lib.Ieee.Positive.{num, den, den_pos}
use Rattle.ieee.specs.Operators.{◌⊕◌, ◌⊖◌, ◌⊘◌}
use Rattle.ieee.specs.Functions.{zero_f, is_inf, is_zero}
use Rattle.ieee.specs.Range.{sgn, plus, In, Mag}
use Rattle.ieee.proofs.Signs.{finite_number}
use Rattle.ieee.proofs.Range.Laws.{plus_finite, plus_sgn, in_up, add_is, sub_is}
use Rattle.ieee.proofs.Range.Constants.{zero_in}
use Rattle.ieee.proofs.Range.Tests.{cond_in}
use Rattle.math_trig.specs.Angles.{pi}
use Rattle.math_atan.specs.Atan.{with_sign, atan, turned, atan2}
use Rattle.math_atan.specs.Signs.{Number, Signs}
use Rattle.math_atan.proofs.AtanBounds.{pi_in, half_pi_in, quarter_pi_in, three_quarters, round_sign, atan_size, atan_mag, atan2_mag, div_number, neither, not_either}

-- ---- a value with a clear sign, given the sign s
given : {a i p j : ℕ} (s : Bool) {v : Float} → In a i p j v → sgn (with_sign s v) ≡ s
unfolding with_sign neg
given true {v} h = negative v h.sign
  where
    negative : (v : Float) → T (plus v) → sgn (neg v) ≡ true
    negative nan p = absurd p
    negative (inf s) p = absurd p
    negative (fin true m e) p = absurd p
    negative (fin false m e) p = refl
given false {v} h = plus_sgn v h.sign

atan_sign : (x : Float) → Number x → sgn (atan x) ≡ sgn x
unfolding atan is_nan
atan_sign nan n = absurd n
atan_sign (inf s) n = given s (atan_size (inf s) n)
atan_sign (fin s m e) n = given s (atan_size (fin s m e) n)

-- ---- a sum has the sign of the larger
sum_sign : (s : Bool) (a : ℕ) (t : Bool) (b c : ℕ) → a < b → sgn (sum binary64 s a t b c) ≡ t
unfolding sum
sum_sign s a t b c h = go s t (ltb a b) (lt-ltb a b h)
  where
    go : (s t u : Bool) → u ≡ true → sgn (cond (beq s t) (round binary64 s (a + b) c) (cond u (round binary64 t (b - a) c) (round binary64 (s && ltb b a) (a - b) c))) ≡ t
    go true true u e = round_sign binary64 true (a + b) c
    go false false u e = round_sign binary64 false (a + b) c
    go true false true e = round_sign binary64 false (b - a) c
    go false true true e = round_sign binary64 true (b - a) c
    go true false false e = absurd (true≢false (sym e))
    go false true false e = absurd (true≢false (sym e))

-- q of at most 2 and a y of at least 3
larger : (n d m c : ℕ) → 0 < d → 0 < c → n * 1 ≤ 2 * d → 3 * c ≤ m * 1 → n * c < m * d
larger n d m c D C h k =
    let a : n * 1 * c ≤ 2 * d * c = mul-le-mul_right c h in
    let b : 3 * c * d ≤ m * 1 * d = mul-le-mul_right d k in
    let p : 0 < d * c = mul-pos D C in
    omega arith

add_sign : {q : Float} (y : Float) → Mag 2 0 q → T (finite y) → 3 * den y ≤ num y * 1 → sgn (q ⊕ y) ≡ sgn y
add_sign {q} y h f k = ap sgn (add_is q y h.fine f) ∙ sum_sign (sgn q) (num q * den y) (sgn y) (num y * den q) (den q * den y) (larger (num q) (den q) (num y) (den y) (den_pos q) (den_pos y) h.most k)

plus_pi : {q : Float} → Mag 2 0 q → sgn (q ⊕ pi) ≡ false
plus_pi h = add_sign pi h (plus_finite pi pi_in.sign) pi_in.least ∙ plus_sgn pi pi_in.sign

minus_pi : {q : Float} → Mag 2 0 q → sgn (q ⊖ pi) ≡ true
minus_pi {q} h = ap sgn (sub_is q pi) ∙ add_sign (neg pi) h fine least ∙ sign
  where
    fine : T (finite (neg pi))
    fine = unfold neg of_bits in tt

    least : 3 * den (neg pi) ≤ num (neg pi) * 1
    least = unfold neg of_bits in pi_in.least

    sign : sgn (neg pi) ≡ true
    sign = unfold neg of_bits in refl

-- ---- numbers that are finite and no zero: their sign is the order to zero, and that of a quotient is known
abbrev Proper : Float → Type 0
Proper x = Number x × (T (not (is_inf x)) × T (not (is_zero x)))

size_pos : (m u d : ℕ) → 0 < u → 0 < suc m * u * 1 + 0 * 1 * d
size_pos m zero d h = absurd (lt_irrefl 0 h)
size_pos m (suc u) d h = omega arith

below_zero : (x : Float) → Proper x → lt x zero_f ≡ sgn x
unfolding lt of_bits is_nan
below_zero nan p = absurd p.0
below_zero (inf s) p = absurd p.1.0
below_zero (fin s zero e) p = absurd p.1.1
below_zero (fin true (suc m) e) p = lt-ltb 0 (suc m * up e * 1 + 0 * 1 * down e) (size_pos m (up e) (down e) (up_pos e))
below_zero (fin false (suc m) e) p = le-ltb (suc m * up e * 1) (0 * 1 * down e) (none (suc m * up e * 1) (down e))
  where
    none : (n d : ℕ) → 0 * 1 * d ≤ n
    none n d = omega arith

above_zero : (y : Float) → Proper y → lt zero_f y ≡ not (sgn y)
unfolding lt of_bits is_nan
above_zero nan p = absurd p.0
above_zero (inf s) p = absurd p.1.0
above_zero (fin s zero e) p = absurd p.1.1
above_zero (fin true (suc m) e) p = refl
above_zero (fin false (suc m) e) p = lt-ltb (0 * 1 * down e) (suc m * up e * 1) (size m (up e) (down e) (up_pos e))
  where
    size : (m u d : ℕ) → 0 < u → 0 * 1 * d < suc m * u * 1
    size m zero d h = absurd (lt_irrefl 0 h)
    size m (suc u) d h = omega arith

quotient_sign : (y x : Float) → Proper y → Proper x → sgn (y ⊘ x) ≡ unlike (sgn y) (sgn x)
unfolding div is_nan
quotient_sign nan x p q = absurd p.0
quotient_sign (inf s) x p q = absurd p.1.0
quotient_sign (fin s m e) nan p q = absurd q.0
quotient_sign (fin s m e) (inf t) p q = absurd q.1.0
quotient_sign (fin s m e) (fin t n d) p q = go (eqb n 0) q.1.1
  where
    go : (b : Bool) → T (not b) → sgn (cond b (cond (eqb m 0) nan (inf (unlike s t))) (round binary64 (unlike s t) (m * up e * down d) (n * up d * down e))) ≡ unlike s t
    go true u = absurd u
    go false u = round_sign binary64 (unlike s t) (m * up e * down d) (n * up d * down e)

-- ---- atan2
turned_sign : (q y x : Float) → Proper y → Proper x → Mag 2 0 q → sgn q ≡ unlike (sgn y) (sgn x) → sgn (turned q y x) ≡ sgn y
unfolding turned
turned_sign q y x py px h e = simp (below_zero x px, above_zero y py, below_zero y py) (go (sgn y) (sgn x) e)
  where
    go : (s t : Bool) → sgn q ≡ unlike s t → sgn (cond (t && not s) (q ⊕ pi) (cond (t && s) (q ⊖ pi) q)) ≡ s
    go true true e = minus_pi h
    go false true e = plus_pi h
    go true false e = e
    go false false e = e

record Has (s : Bool) (v : Float) : Type 0 where
  sign : sgn v ≡ s

pick : {s : Bool} {v w : Float} (b : Bool) → (T b → Has s v) → (T (not b) → Has s w) → Has s (cond b v w)
pick true f g = f tt
pick false f g = g tt

atan2_sign : (y x : Float) → Number y → Number x → Has (sgn y) (atan2 y x)
unfolding atan2
atan2_sign y x ny nx =
    pick (is_nan y || is_nan x) (λ t. absurd (not_either (is_nan y) (is_nan x) ny nx t))
    (λ _. pick (is_inf y && is_inf x) (λ _. record { sign = given (sgn y) (cond_in {a = 0} {i = 0} {p = 3} {j = 0} (sgn x) (in_up three_quarters tt) (in_up quarter_pi_in tt)) })
    (λ _. pick (is_zero y || is_inf x) (λ _. record { sign = given (sgn y) (cond_in {a = 0} {i = 0} {p = 4} {j = 0} (sgn x) (in_up pi_in tt) (in_up zero_in tt)) })
    (λ a. pick (is_zero x || is_inf y) (λ _. record { sign = given (sgn y) half_pi_in })
    (λ b.
    let p = neither (is_zero y) (is_inf x) a in
    let q = neither (is_zero x) (is_inf y) b in
    let n = div_number y x ny nx q.1 p.1 q.0 in
    let py : Proper y = (ny, (q.1, p.0)) in
    let px : Proper x = (nx, (p.1, q.0)) in
    record { sign = turned_sign (atan (y ⊘ x)) y x py px (atan_mag (y ⊘ x) n) (atan_sign (y ⊘ x) n ∙ quotient_sign y x py px) }))))

pub signs : Signs
signs = record {
  sign_of_x = λ x n. (finite_number (atan x) (atan_mag x n).fine, atan_sign x n);
  sign_of_y = λ y x m n. (finite_number (atan2 y x) (atan2_mag y x m n).fine, (atan2_sign y x m n).sign);
}
