-- x less its turns: |r| ≤ 4 for every finite x up to 2 ^ 20 in size, and for such an x the products k·T1 and k·(T - T1) are exact. Assumes nothing.
use mathlib.Core.Path.{◌≡◌, refl, sym, ap, ◌∙◌, subst}
use Prim.Native.Nat.{ℕ, zero, suc, ◌+◌, ◌-◌, ◌*◌, ◌^◌, ◌≤◌, ◌<◌}
use native.Mathlib.Nat.{le_trans, le_of_eq, zero-add, mul_assoc, mul_right_comm, mul-le-mul_right, mul-pos}
use native.Mathlib.Omega.{arith}
use mathlib.Core.Bool.{Bool, true, false, not, ◌&&◌, beq, cond}
use lib.Dec.{T, ltb, lit≤}
use lib.Ieee.{Float, nan, inf, fin, binary64, unlike, round, sum, neg, add, sub, of_int, of_bits}
use lib.Ieee.Scale.{finite}
use lib.IntN.{ℤ, pos, nat_abs, ◌*ℤ◌, pos-ne-negsuc}
use lib.Ieee.Positive.{num, den, den_pos}
use Rattle.ieee.specs.Operators.{◌⊖◌, ◌⊗◌, ◌⊘◌}
use Rattle.ieee.specs.Range.{sgn, Mag, In, holds}
use Rattle.ieee.proofs.Range.Laws.{rep_small, round_rep, round_mag, in_lit, in_mag, mul_mag}
use Rattle.ieee.proofs.Range.Sums.{sub_mag}
use Rattle.ieee.proofs.Range.Zero.{zero_mul_mag}
use Rattle.whole_f64.specs.Whole.{signed, Is}
use Rattle.whole_f64.proofs.Laws.{size_of, signed_mul, whole, exact_operations}
use Rattle.whole_nearest.specs.Nearest.{nearest_size, nearest_whole}
use Rattle.math_trig.specs.Angles.{tau, tau_high, tau_low}
use Rattle.math_trig.specs.Trig.{less_turns, reduce}
use Rattle.math_trig.proofs.Turns.{M, Turns, turns_of, quotient_sgn}

-- ---- T1 is A / 2 ^ 22, T - T1 is B / 2 ^ 47, and nothing is lost between them
abbrev pub A : ℕ
A = 26353589

abbrev pub B : ℕ
B = 8947107

pub high_in : In A 22 A 22 tau_high
unfolding of_bits
high_in = in_lit tau_high tt

pub high_is : Is 22 tau_high (pos A)
unfolding of_bits
high_is = record { fine = tt; size = refl; sign = refl }

pub middle_in : In B 47 B 47 (tau ⊖ tau_high)
unfolding of_bits sub add neg
middle_in = in_lit (tau ⊖ tau_high) tt

pub middle_is : Is 47 (tau ⊖ tau_high) (pos B)
unfolding of_bits sub add neg
middle_is = record { fine = tt; size = refl; sign = refl }

pub low_in : In 1 53 1 51 tau_low
unfolding of_bits
low_in = in_lit tau_low tt

-- ---- a whole number as a float
pub whole_is : (s : Bool) (K : ℕ) → K ≤ 166886 → Is 0 (of_int binary64 (signed s K)) (signed s K)
whole_is s K h = whole (signed s K) (subst (λ (n : ℕ). n < 2 ^ 53) (sym (size_of s K)) (few K h))
  where
    few : (K : ℕ) → K ≤ 166886 → K < 2 ^ 53
    few K h = omega arith

pub whole_mag : (s : Bool) (K : ℕ) → K ≤ 166886 → Mag 166886 0 (of_int binary64 (signed s K))
unfolding of_int
whole_mag s K h = go s K h
  where
    at : (K : ℕ) → K ≤ 166886 → K * 1 ≤ 166886 * 1
    at K h = omega arith

    one : 0 < 1
    one = omega arith

    go : (s : Bool) (K : ℕ) → K ≤ 166886 → Mag 166886 0 (of_int binary64 (signed s K))
    go false K h = round_mag false K 1 166886 1 166886 0 one one (at K h) tt
    go true zero h = round_mag false 0 1 166886 1 166886 0 one one (at 0 h) tt
    go true (suc k) h = round_mag true (suc k) 1 166886 1 166886 0 one one (at (suc k) h) tt

pub no_whole : (s : Bool) → Mag 0 0 (of_int binary64 (signed s 0))
unfolding of_int
no_whole true = round_mag false 0 1 0 1 0 0 (lit≤ {m = 1} {n = 1} tt) (lit≤ {m = 1} {n = 1} tt) (le_of_eq refl) tt
no_whole false = round_mag false 0 1 0 1 0 0 (lit≤ {m = 1} {n = 1} tt) (lit≤ {m = 1} {n = 1} tt) (le_of_eq refl) tt

-- ---- the product of a whole number and a constant C / 2 ^ j, below 2 ^ 53
pub signed_times : (s : Bool) (n c : ℕ) → signed s n *ℤ pos c ≡ signed s (n * c)
signed_times s n c = signed_mul s false n c ∙ ap (λ (b : Bool). signed b (n * c)) (same s)
  where
    same : (s : Bool) → unlike s false ≡ s
    same true = refl
    same false = refl

pub times : (s : Bool) (K C j : ℕ) (c : Float) → K ≤ 166886 → Is j c (pos C) → K * C < 2 ^ 53 → j ≤ 1074 → Is j (of_int binary64 (signed s K) ⊗ c) (signed s (K * C))
times s K C j c few g small deep =
    let e = signed_times s K C in
    let p = exact_operations.product (whole_is s K few) g (subst (λ (n : ℕ). n < 2 ^ 53) (sym (ap nat_abs e ∙ size_of s (K * C))) small) (le_trans (le_of_eq (zero-add j)) deep) in
    subst (λ (z : ℤ). Is j (of_int binary64 (signed s K) ⊗ c) z) e (subst (λ (i : ℕ). Is i (of_int binary64 (signed s K) ⊗ c) (signed s K *ℤ pos C)) (zero-add j) p)

-- its sign, where it is not zero
pub same_sign : (b s : Bool) (n : ℕ) → 0 < n → signed b n ≡ signed s n → b ≡ s
same_sign b s zero P e = absurd (none P)
  where
    none : 0 < 0 → ⊥
    none h = omega arith
same_sign true true (suc n) P e = refl
same_sign false false (suc n) P e = refl
same_sign true false (suc n) P e = absurd (pos-ne-negsuc (suc n) n (sym e))
same_sign false true (suc n) P e = absurd (pos-ne-negsuc (suc n) n e)

pub sign_of : {j : ℕ} {y : Float} (s : Bool) (n : ℕ) → 0 < n → Is j y (signed s n) → sgn y ≡ s
sign_of {y = y} s n P h = same_sign (sgn y) s n P (ap (signed (sgn y)) (sym (size_of s n)) ∙ h.sign)

pub cross_of : {j : ℕ} {y : Float} (s : Bool) (n : ℕ) → Is j y (signed s n) → num y * 2 ^ j ≡ n * den y
cross_of {y = y} s n h = h.size ∙ ap (λ (m : ℕ). m * den y) (size_of s n)

-- ---- a difference of two of one sign
pub sub_at : (x y : Float) → T (finite x) → T (finite y) → x ⊖ y ≡ sum binary64 (sgn x) (num x * den y) (not (sgn y)) (num y * den x) (den x * den y)
unfolding sub add neg
sub_at nan y f g = absurd f
sub_at (inf s) y f g = absurd f
sub_at (fin s m e) nan f g = absurd g
sub_at (fin s m e) (inf t) f g = absurd g
sub_at (fin s m e) (fin t n d) f g = refl

gap_mag : (s : Bool) (a b c r n : ℕ) → 0 < c → T (holds r n) → (a - b) * 2 ^ n ≤ r * c → (b - a) * 2 ^ n ≤ r * c → Mag r n (sum binary64 s a (not s) b c)
unfolding sum
gap_mag s a b c r n C t h g = go s (ltb a b) (ltb b a)
  where
    left : (s : Bool) → Mag r n (round binary64 s (a - b) c)
    left s = round_rep s (a - b) c r n C (rep_small r n t) h

    right : (s : Bool) → Mag r n (round binary64 s (b - a) c)
    right s = round_rep s (b - a) c r n C (rep_small r n t) g

    go : (s u v : Bool) → Mag r n (cond (beq s (not s)) (round binary64 s (a + b) c) (cond u (round binary64 (not s) (b - a) c) (round binary64 (s && v) (a - b) c)))
    go true true v = right false
    go true false v = left (true && v)
    go false true v = right true
    go false false v = left (false && v)

-- ---- the first difference
-- in atoms: XD is X·dy, YD is Y·dx, KD is K·dx·dy, DD is dx·dy
-- Z is 2 ^ 26·A·KD
near_up : (XD YD KD DD : ℕ) → YD * 2 ^ 22 ≡ A * KD → 2 ^ 48 * XD ≤ 2 * M * KD + (M + 2 ^ 15) * DD → KD ≤ 166886 * DD → (XD - YD) * 2 ^ 2 ≤ 13 * DD
near_up XD YD KD DD e h k = close XD YD (2 ^ 26 * (A * KD)) KD DD (scale YD (A * KD) e) (le_trans h (le_of_eq (split KD DD))) k
  where
    scale : (Y a : ℕ) → Y * 2 ^ 22 ≡ a → 2 ^ 48 * Y ≡ 2 ^ 26 * a
    scale Y a e = omega arith

    split : (KD DD : ℕ) → 2 * M * KD + (M + 2 ^ 15) * DD ≡ 2 ^ 26 * (A * KD) + 2 * B * KD + (M + 2 ^ 15) * DD
    split KD DD = omega arith

    most : (KD DD : ℕ) → KD ≤ 166886 * DD → 2 * B * KD + (M + 2 ^ 15) * DD ≤ 13 * 2 ^ 46 * DD
    most KD DD k = omega arith

    off : (XD YD R : ℕ) → 2 ^ 48 * XD ≤ 2 ^ 48 * YD + 2 ^ 46 * R → (XD - YD) * 2 ^ 2 ≤ R
    off XD YD R h = omega arith

    close : (XD YD Z KD DD : ℕ) → 2 ^ 48 * YD ≡ Z → 2 ^ 48 * XD ≤ Z + 2 * B * KD + (M + 2 ^ 15) * DD → KD ≤ 166886 * DD → (XD - YD) * 2 ^ 2 ≤ 13 * DD
    close XD YD Z KD DD e h k = off XD YD (13 * DD) (join Z (2 ^ 48 * YD) (2 ^ 48 * XD) (2 * B * KD) ((M + 2 ^ 15) * DD) DD e h (most KD DD k))
      where
        join : (Z Y X b m D : ℕ) → Y ≡ Z → X ≤ Z + b + m → b + m ≤ 13 * 2 ^ 46 * D → X ≤ Y + 2 ^ 46 * (13 * D)
        join Z Y X b m D e h k = omega arith

near_down : (XD YD KD DD : ℕ) → YD * 2 ^ 22 ≡ A * KD → 2 * M * KD ≤ 2 ^ 48 * XD + (M + 2 ^ 15) * DD → (YD - XD) * 2 ^ 2 ≤ 13 * DD
near_down XD YD KD DD e h = off XD YD DD (le_trans (le_of_eq (scale YD (A * KD) e)) (le_trans (most KD) h))
  where
    scale : (Y a : ℕ) → Y * 2 ^ 22 ≡ a → 2 ^ 48 * Y ≡ 2 ^ 26 * a
    scale Y a e = omega arith

    most : (KD : ℕ) → 2 ^ 26 * (A * KD) ≤ 2 * M * KD
    most KD = omega arith

    off : (XD YD DD : ℕ) → 2 ^ 48 * YD ≤ 2 ^ 48 * XD + (M + 2 ^ 15) * DD → (YD - XD) * 2 ^ 2 ≤ 13 * DD
    off XD YD DD h = omega arith

first_some : (s : Bool) (x y : Float) (K : ℕ) → T (finite x) → sgn x ≡ s → 0 < K → Is 22 y (signed s (K * A)) → Turns K (num x) (den x) → Mag 13 2 (x ⊖ y)
first_some s x y K f sx P v t =
    let X = num x in
    let dx = den x in
    let Y = num y in
    let dy = den y in
    let e : Y * dx * 2 ^ 22 ≡ A * (K * dx * dy) = flat Y dx dy K (cross_of s (K * A) v) in
    let u : 2 * M * (K * dx * dy) ≤ 2 ^ 48 * (X * dy) + (M + 2 ^ 15) * (dx * dy) = under X dx dy (K * dx) (mul-le-mul_right dy t.under) in
    let o : 2 ^ 48 * (X * dy) ≤ 2 * M * (K * dx * dy) + (M + 2 ^ 15) * (dx * dy) = over X dx dy (K * dx) (mul-le-mul_right dy t.over) in
    let k : K * dx * dy ≤ 166886 * (dx * dy) = le_trans (mul-le-mul_right dy (mul-le-mul_right dx t.most)) (le_of_eq (mul_assoc 166886 dx dy)) in
    subst (λ (z : Float). Mag 13 2 z) (sym (sub_at x y f v.fine))
    (subst (λ (b : Bool). Mag 13 2 (sum binary64 (sgn x) (X * dy) (not b) (Y * dx) (dx * dy))) (sx ∙ sym (sign_of s (K * A) (some K P) v))
    (gap_mag (sgn x) (X * dy) (Y * dx) (dx * dy) 13 2 (mul-pos (den_pos x) (den_pos y)) tt (near_up (X * dy) (Y * dx) (K * dx * dy) (dx * dy) e o k) (near_down (X * dy) (Y * dx) (K * dx * dy) (dx * dy) e u)))
  where
    some : (K : ℕ) → 0 < K → 0 < K * A
    some K P = omega arith

    flat : (Y dx dy K : ℕ) → Y * 2 ^ 22 ≡ K * A * dy → Y * dx * 2 ^ 22 ≡ A * (K * dx * dy)
    flat Y dx dy K h = mul_right_comm Y dx (2 ^ 22) ∙ ap (λ (z : ℕ). z * dx) h ∙ reorder K dy dx
      where
        reorder : (K dy dx : ℕ) → K * A * dy * dx ≡ A * (K * dx * dy)
        reorder K dy dx = omega arith

    under : (X dx dy k : ℕ) → 2 * M * k * dy ≤ (2 ^ 48 * X + (M + 2 ^ 15) * dx) * dy → 2 * M * (k * dy) ≤ 2 ^ 48 * (X * dy) + (M + 2 ^ 15) * (dx * dy)
    under X dx dy k h = omega arith

    over : (X dx dy k : ℕ) → 2 ^ 48 * X * dy ≤ (2 * M * k + (M + 2 ^ 15) * dx) * dy → 2 ^ 48 * (X * dy) ≤ 2 * M * (k * dy) + (M + 2 ^ 15) * (dx * dy)
    over X dx dy k h = omega arith

first_none : (x z : Float) → T (finite x) → Turns 0 (num x) (den x) → Mag 0 0 z → Mag 13 2 (x ⊖ z)
first_none x z f t g =
    let m : Mag 13 2 x = record { fine = f; most = at (num x) (den x) t.over } in
    sub_mag m g tt
  where
    at : (X dx : ℕ) → 2 ^ 48 * X ≤ 2 * M * (0 * dx) + (M + 2 ^ 15) * dx → X * 2 ^ 2 ≤ 13 * dx
    at X dx h = omega arith

small : (K : ℕ) → K ≤ 166886 → K * A < 2 ^ 53
small K h = omega arith

first_mag : (s : Bool) (x : Float) (K : ℕ) → T (finite x) → sgn x ≡ s → Turns K (num x) (den x) → Mag 13 2 (x ⊖ of_int binary64 (signed s K) ⊗ tau_high)
first_mag s x zero f sx t = first_none x (of_int binary64 (signed s 0) ⊗ tau_high) f t (zero_mul_mag (no_whole s) (in_mag high_in))
first_mag s x (suc K) f sx t =
    first_some s x (of_int binary64 (signed s (suc K)) ⊗ tau_high) (suc K) f sx (above K)
    (times s (suc K) A 22 tau_high t.most high_is (small (suc K) t.most) (lit≤ {m = 22} {n = 1074} tt)) t
  where
    above : (K : ℕ) → 0 < suc K
    above K = omega arith

-- ---- the whole line
less_mag : (s : Bool) (x : Float) (K : ℕ) → T (finite x) → sgn x ≡ s → Turns K (num x) (den x) → Mag 4 0 (less_turns (of_int binary64 (signed s K)) x)
unfolding less_turns
less_mag s x K f sx t =
    let k : Mag 166886 0 (of_int binary64 (signed s K)) = whole_mag s K t.most in
    let a : Mag 13 2 (x ⊖ of_int binary64 (signed s K) ⊗ tau_high) = first_mag s x K f sx t in
    let p : Mag 1 6 (of_int binary64 (signed s K) ⊗ (tau ⊖ tau_high)) = mul_mag k (in_mag middle_in) tt in
    let b : Mag 27 3 (x ⊖ of_int binary64 (signed s K) ⊗ tau_high ⊖ of_int binary64 (signed s K) ⊗ (tau ⊖ tau_high)) = sub_mag a p tt in
    let q : Mag 1 30 (of_int binary64 (signed s K) ⊗ tau_low) = mul_mag k (in_mag low_in) tt in
    sub_mag b q tt

-- k, by its sign and its size
pub k_is : (x : Float) → Mag (2 ^ 20) 0 x → nearest_whole (x ⊘ tau) ≡ of_int binary64 (signed (sgn x) (nearest_size (x ⊘ tau)))
unfolding nearest_whole
k_is x h = ap (λ (s : Bool). of_int binary64 (signed s (nearest_size (x ⊘ tau)))) (quotient_sgn x h)

pub reduce_mag : (x : Float) → Mag (2 ^ 20) 0 x → Mag 4 0 (reduce x)
unfolding reduce
reduce_mag x h = subst (λ (k : Float). Mag 4 0 (less_turns k x)) (sym (k_is x h)) (less_mag (sgn x) x (nearest_size (x ⊘ tau)) h.fine refl (turns_of x h))
