-- Zeros of either sign, `Mag 0 0 z`, and what is exact: a sum with a zero, and x - x. Assumes nothing.
use mathlib.Core.Path.{◌≡◌, refl, sym, ap, ◌∙◌, subst}
use mathlib.Core.Logic.{◌⊎◌, inl, inr}
use Prim.Native.Nat.{ℕ, zero, suc, ◌+◌, ◌-◌, ◌*◌, ◌≤◌, ◌<◌}
use native.Mathlib.Nat.{le_trans, le_of_eq, zero-mul, mul_comm, mul_assoc, mul_left_comm, mul-pos, add-zero, sub-zero}
use native.Mathlib.Omega.{arith}
use mathlib.Core.Bool.{Bool, true, false, not, ◌&&◌, beq, cond}
use lib.Dec.{T, lt→ltb, ltb, ltb→lt}
use lib.Pow.{pow_pos}
use lib.Ieee.{Float, nan, inf, fin, binary64, unlike, up, down, round, sum, add, sub, mul, fits}
use lib.Ieee.Fits.{and_l, and_r, down_pos}
use lib.Ieee.Scale.{finite, round_same}
use lib.Ieee.Positive.{num, den, den_pos}
use Rattle.ieee.specs.Range.{sgn, plus, Mag, In, holds}
use Rattle.ieee.proofs.Range.Round.{round_least, round_plus, value_cross, value_finite}
use Rattle.ieee.proofs.Range.Values.{own_round, round_itself}
use Rattle.ieee.proofs.Range.Laws.{plus_finite, plus_sgn, rep_small, round_rep, round_mag, mul_is, add_is, sub_is, neg_mag}
use lib.Ieee.Exact.{HasValue}

-- ---- zeros
pub zero_num : {z : Float} → Mag 0 0 z → num z ≡ 0
zero_num {z} h = go (num z) (den z) h.most
  where
    go : (n d : ℕ) → n * 1 ≤ 0 * d → n ≡ 0
    go n d h = omega arith

-- a zero times anything finite
pub zero_mul_mag : {p j : ℕ} {z x : Float} → Mag 0 0 z → Mag p j x → Mag 0 0 (mul binary64 z x)
zero_mul_mag {p} {j} {z} {x} h g =
    subst (λ (w : Float). Mag 0 0 w) (sym (mul_is z x h.fine g.fine))
    (round_mag (unlike (sgn z) (sgn x)) (num z * num x) (den z * den x) 0 1 0 0 (mul-pos (den_pos z) (den_pos x)) (pow_pos 0)
    (subst (λ (n : ℕ). n * num x * 1 ≤ 0 * (den z * den x)) (sym (zero_num h)) (none (num x) (den z * den x))) tt)
  where
    none : (n d : ℕ) → 0 * n * 1 ≤ 0 * d
    none n d = omega arith

pub mul_zero_mag : {p j : ℕ} {x z : Float} → Mag p j x → Mag 0 0 z → Mag 0 0 (mul binary64 x z)
mul_zero_mag {p} {j} {x} {z} g h =
    subst (λ (w : Float). Mag 0 0 w) (sym (mul_is x z g.fine h.fine))
    (round_mag (unlike (sgn x) (sgn z)) (num x * num z) (den x * den z) 0 1 0 0 (mul-pos (den_pos x) (den_pos z)) (pow_pos 0)
    (subst (λ (n : ℕ). num x * n * 1 ≤ 0 * (den x * den z)) (sym (zero_num h)) (none (num x) (den x * den z))) tt)
  where
    none : (n d : ℕ) → n * 0 * 1 ≤ 0 * d
    none n d = omega arith

-- ---- x plus a zero: the sum rounds x itself
sum_zero : (s : Bool) (a : ℕ) (t : Bool) (c : ℕ) → 0 < a ⊎ T (not s) → sum binary64 s a t 0 c ≡ round binary64 s a c
unfolding sum
sum_zero s a t c h = go s t (ltb a 0) (ltb 0 a) (λ u. never a (ltb→lt a 0 u)) (gives s h)
  where
    never : (a : ℕ) → a < 0 → ⊥
    never a h = omega arith

    gives : (s : Bool) → 0 < a ⊎ T (not s) → T s → T (ltb 0 a)
    gives s (inl p) t = lt→ltb 0 a p
    gives true (inr q) t = absurd q
    gives false (inr q) t = absurd t

    go : (s t u v : Bool) → (T u → ⊥) → (T s → T v) → cond (beq s t) (round binary64 s (a + 0) c) (cond u (round binary64 t (0 - a) c) (round binary64 (s && v) (a - 0) c)) ≡ round binary64 s a c
    go true true u v f g = ap (λ (n : ℕ). round binary64 true n c) (add-zero a)
    go true false true v f g = absurd (f tt)
    go true false false true f g = ap (λ (n : ℕ). round binary64 true n c) (sub-zero a)
    go true false false false f g = absurd (g tt)
    go false true true v f g = absurd (f tt)
    go false true false v f g = ap (λ (n : ℕ). round binary64 false n c) (sub-zero a)
    go false false u v f g = ap (λ (n : ℕ). round binary64 false n c) (add-zero a)

add_zero_is : (x z : Float) → T (finite x) → Mag 0 0 z → (0 < num x * den z) ⊎ T (not (sgn x)) → add binary64 x z ≡ round binary64 (sgn x) (num x) (den x)
add_zero_is x z f h k =
    add_is x z f h.fine
    ∙ ap (λ (n : ℕ). sum binary64 (sgn x) (num x * den z) (sgn z) n (den x * den z)) (ap (λ (n : ℕ). n * den x) (zero_num h) ∙ zero-mul (den x))
    ∙ sum_zero (sgn x) (num x * den z) (sgn z) (den x * den z) k
    ∙ round_same binary64 (sgn x) (num x * den z) (den x * den z) (num x) (den x) (mul-pos (den_pos x) (den_pos z)) (den_pos x) (simp (mul_assoc, mul_comm, mul_left_comm))

-- ---- x + 0 is x, for an x with a clear sign
pub add_zero_same : {z : Float} (x : Float) → T (plus x) → T (fits binary64 x) → Mag 0 0 z → add binary64 x z ≡ x
add_zero_same {z} x p h g =
    let f = plus_finite x p in
    add_zero_is x z f g (inr (subst (λ (b : Bool). T (not b)) (sym (plus_sgn x p)) tt)) ∙ round_itself binary64 x f h

-- ---- the same as ranges, whatever the bounds
pub add_zero_in : {a i p j : ℕ} {x z : Float} → In a i p j x → Mag 0 0 z → T (holds a i && holds p j) → In a i p j (add binary64 x z)
add_zero_in {a} {i} {p} {j} {x} {z} h g t =
    let e = add_zero_is x z (plus_finite x h.sign) g (inr (subst (λ (b : Bool). T (not b)) (sym (plus_sgn x h.sign)) tt)) ∙ ap (λ (s : Bool). round binary64 s (num x) (den x)) (plus_sgn x h.sign) in
    let m = round_rep false (num x) (den x) p j (den_pos x) (rep_small p j (and_r (holds a i) (holds p j) t)) h.most in
    subst (λ (w : Float). In a i p j w) (sym e)
    (record { sign = round_plus binary64 (num x) (den x) m.fine; least = round_least binary64 (num x) (den x) a i (den_pos x) (rep_small a i (and_l (holds a i) (holds p j) t)) h.least m.fine; most = m.most })

pub sub_zero_in : {a i p j : ℕ} {x z : Float} → In a i p j x → Mag 0 0 z → T (holds a i && holds p j) → In a i p j (sub binary64 x z)
sub_zero_in {a} {i} {p} {j} {x} {z} h g t = subst (λ (w : Float). In a i p j w) (sym (sub_is x z)) (add_zero_in h (neg_mag g) t)

-- ---- x - x
opposite : (s : Bool) (a c : ℕ) → 0 < c → Mag 0 0 (sum binary64 s a (not s) a c)
unfolding sum
opposite s a c C = go s (ltb a a)
  where
    none : (a d : ℕ) → (a - a) * 1 ≤ 0 * d
    none a d = omega arith

    nought : (s : Bool) → Mag 0 0 (round binary64 s (a - a) c)
    nought s = round_mag s (a - a) c 0 1 0 0 C (pow_pos 0) (none a c) tt

    go : (s u : Bool) → Mag 0 0 (cond (beq s (not s)) (round binary64 s (a + a) c) (cond u (round binary64 (not s) (a - a) c) (round binary64 (s && ltb a a) (a - a) c)))
    go true true = nought false
    go true false = nought (true && ltb a a)
    go false true = nought true
    go false false = nought (false && ltb a a)

pub sub_self_mag : (x : Float) → T (finite x) → Mag 0 0 (sub binary64 x x)
unfolding sub
sub_self_mag nan f = absurd f
sub_self_mag (inf s) f = absurd f
sub_self_mag (fin s m e) f = opposite s (m * up e * down e) (down e * down e) (mul-pos (down_pos e) (down_pos e))

-- ---- x plus a zero is no larger than x, of either sign
pub add_zero_size : {z : Float} (x : Float) → T (finite x) → T (fits binary64 x) → Mag 0 0 z → T (finite (add binary64 x z)) × (num (add binary64 x z) * den x ≤ num x * den (add binary64 x z))
add_zero_size {z} x f h g = go (sgn x) refl (num x) refl
  where
    exact : (0 < num x * den z) ⊎ T (not (sgn x)) → T (finite (add binary64 x z)) × (num (add binary64 x z) * den x ≤ num x * den (add binary64 x z))
    exact k =
        let v = subst (λ (w : Float). HasValue w (sgn x) (num x) (den x)) (sym (add_zero_is x z f g k)) (own_round binary64 x f h) in
        (value_finite (add binary64 x z) (sgn x) (num x) (den x) v, le_of_eq (value_cross (add binary64 x z) (sgn x) (num x) (den x) v))

    both : num x ≡ 0 → Mag 0 0 (add binary64 x z)
    both e =
        subst (λ (w : Float). Mag 0 0 w) (sym (add_is x z f g.fine))
        (subst (λ (n : ℕ). Mag 0 0 (sum binary64 (sgn x) (num x * den z) (sgn z) n (den x * den z))) (sym (ap (λ (n : ℕ). n * den x) (zero_num g) ∙ zero-mul (den x)))
        (subst (λ (n : ℕ). Mag 0 0 (sum binary64 (sgn x) n (sgn z) 0 (den x * den z))) (sym (ap (λ (n : ℕ). n * den z) e ∙ zero-mul (den z)))
        (nothing (sgn x) (sgn z) (den x * den z) (mul-pos (den_pos x) (den_pos z)))))
      where
        nothing : (s t : Bool) (c : ℕ) → 0 < c → Mag 0 0 (sum binary64 s 0 t 0 c)
        nothing s t c C = unfold sum in at s t
          where
            nought : (s : Bool) → Mag 0 0 (round binary64 s 0 c)
            nought s = round_mag s 0 c 0 1 0 0 C (pow_pos 0) (none c) tt
              where
                none : (c : ℕ) → 0 * 1 ≤ 0 * c
                none c = omega arith

            at : (s t : Bool) → Mag 0 0 (cond (beq s t) (round binary64 s 0 c) (cond (ltb 0 0) (round binary64 t 0 c) (round binary64 (s && ltb 0 0) 0 c)))
            at true true = nought true
            at true false = nought false
            at false true = nought false
            at false false = nought false

    go : (s : Bool) → sgn x ≡ s → (n : ℕ) → num x ≡ n → T (finite (add binary64 x z)) × (num (add binary64 x z) * den x ≤ num x * den (add binary64 x z))
    go false e n q = exact (inr (subst (λ (b : Bool). T (not b)) (sym e) tt))
    go true e zero q =
        let m = both q in
        (m.fine, le_trans (le_of_eq (ap (λ (n : ℕ). n * den x) (zero_num m) ∙ zero-mul (den x))) (low_end (num x * den (add binary64 x z))))
      where
        low_end : (n : ℕ) → 0 ≤ n
        low_end n = omega arith
    go true e (suc n) q = exact (inl (mul-pos (subst (λ (k : ℕ). 0 < k) (sym q) (up_one n)) (den_pos z)))
      where
        up_one : (n : ℕ) → 0 < suc n
        up_one n = omega arith
