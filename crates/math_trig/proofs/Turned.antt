-- The first line of -x is the opposite of that of x: -r in every bit, or both are +0. For every x. Assumes nothing.
use mathlib.Core.Path.{◌≡◌, refl, sym, ap, ap₂, ◌∙◌, subst}
use mathlib.Core.Logic.{inl, inr}
use Prim.Native.Nat.{ℕ, zero, suc, ◌-◌, ◌*◌, ◌^◌, ◌≤◌, ◌<◌}
use native.Mathlib.Nat.{zero-mul, mul-one, one-mul, zero-add, add-zero, sub-zero, lt_of_lt_of_le, mul-pos}
use native.Mathlib.Omega.{arith}
use mathlib.Core.Bool.{Bool, true, false, not, cond}
use lib.Dec.{T, ltb, eqb, lt→ltb, ltb→lt, lit≤}
use lib.IntN.{pos}
use lib.Ieee.{Float, nan, inf, fin, binary64, unlike, up, down, round, sum, fits, neg, add, sub, mul, div, rem, le, of_int, of_bits}
use lib.Ieee.Scale.{finite}
use lib.Ieee.Positive.{num, den, den_pos, first_pos}
use Rattle.ieee.specs.Operators.{◌⊖◌, ◌⊗◌, ◌⊘◌}
use Rattle.ieee.specs.Functions.{zero_f, abs}
use Rattle.ieee.specs.Range.{sgn, Mag, In}
use Rattle.ieee.proofs.Range.Values.{round_itself}
use Rattle.ieee.proofs.Range.Laws.{round_in, in_mag, mul_in, neg_mag}
use Rattle.whole_f64.specs.Whole.{signed}
use Rattle.whole_nearest.specs.Nearest.{nearest_size, nearest_whole}
use Rattle.math_trig.specs.Angles.{tau, tau_high, tau_low, turns_limit}
use Rattle.math_trig.specs.Trig.{less_turns, reduce, first_line}
use Rattle.math_trig.specs.Opposite.{Opposite}
use Rattle.math_trig.proofs.Opposites.{neg_neg, round_neg, mul_neg, rem_neg, sub_neg}
use Rattle.math_trig.proofs.Turns.{turns_of, limit_mag}
use Rattle.math_trig.proofs.Less.{middle_in, low_in, k_is}

-- ---- the quotient of -x
not_unlike : (s t : Bool) → unlike (not s) t ≡ not (unlike s t)
not_unlike true true = refl
not_unlike true false = refl
not_unlike false true = refl
not_unlike false false = refl

pub div_neg : (x y : Float) → neg x ⊘ y ≡ neg (x ⊘ y)
unfolding div neg
div_neg nan y = refl
div_neg (inf s) nan = refl
div_neg (inf s) (inf t) = refl
div_neg (inf s) (fin t n d) = ap inf (not_unlike s t)
div_neg (fin s m e) nan = refl
div_neg (fin s m e) (inf t) = ap (λ (b : Bool). fin b 0 (pos 0)) (not_unlike s t)
div_neg (fin s m e) (fin t n d) = go (eqb n 0) (eqb m 0)
  where
    N : ℕ
    N = m * up e * down d

    D : ℕ
    D = n * up d * down e

    go : (b c : Bool) → cond b (cond c nan (inf (unlike (not s) t))) (round binary64 (unlike (not s) t) N D) ≡ neg (cond b (cond c nan (inf (unlike s t))) (round binary64 (unlike s t) N D))
    go true true = refl
    go true false = ap inf (not_unlike s t)
    go false c = ap (λ (b : Bool). round binary64 b N D) (not_unlike s t) ∙ sym (round_neg binary64 (unlike s t) N D)

pub turns_neg : (q : Float) → nearest_size (neg q) ≡ nearest_size q
unfolding neg
turns_neg nan = refl
turns_neg (inf s) = refl
turns_neg (fin s m e) = refl

pub sgn_neg : (x : Float) → T (finite x) → sgn (neg x) ≡ not (sgn x)
unfolding neg
sgn_neg nan f = absurd f
sgn_neg (inf s) f = refl
sgn_neg (fin s m e) f = refl

abs_neg : (x : Float) → abs (neg x) ≡ abs x
unfolding abs neg
abs_neg nan = refl
abs_neg (inf s) = refl
abs_neg (fin s m e) = refl

-- ---- no turn: the zeros that are taken off do not change x's sign
sum_zero : (s : Bool) (a c : ℕ) → sum binary64 s a true 0 c ≡ round binary64 s a c
unfolding sum
sum_zero true a c = ap (λ (n : ℕ). round binary64 true n c) (add-zero a)
sum_zero false a c = go (ltb a 0) (ltb→lt a 0)
  where
    none : (a : ℕ) → a < 0 → ⊥
    none a h = omega arith

    go : (u : Bool) → (T u → a < 0) → cond u (round binary64 true (0 - a) c) (round binary64 false (a - 0) c) ≡ round binary64 false a c
    go true h = absurd (none a (h tt))
    go false h = ap (λ (n : ℕ). round binary64 false n c) (sub-zero a)

less_zero : (s : Bool) (m : ℕ) (e : _) → fin s m e ⊖ zero_f ≡ round binary64 s (m * up e * 1) (down e * 1)
unfolding sub add neg of_bits
less_zero s m e = ap (λ (n : ℕ). sum binary64 s (m * up e * 1) true n (down e * 1)) (zero-mul (down e)) ∙ sum_zero s (m * up e * 1) (down e * 1)

less_zero_neg : (x : Float) → neg x ⊖ zero_f ≡ neg (x ⊖ zero_f)
less_zero_neg nan = unfold sub add neg of_bits in refl
less_zero_neg (inf s) = unfold sub add neg of_bits in refl
less_zero_neg (fin s m e) = ap (λ (z : Float). z ⊖ zero_f) (flip s m e) ∙ less_zero (not s) m e ∙ sym (round_neg binary64 s (m * up e * 1) (down e * 1)) ∙ ap neg (sym (less_zero s m e))
  where
    flip : (s : Bool) (m : ℕ) (e : _) → neg (fin s m e) ≡ fin (not s) m e
    flip s m e = unfold neg in refl

no_high : zero_f ⊗ tau_high ≡ zero_f
unfolding mul of_bits
no_high = refl

no_middle : zero_f ⊗ (tau ⊖ tau_high) ≡ zero_f
unfolding mul sub add neg of_bits
no_middle = refl

no_low : zero_f ⊗ tau_low ≡ zero_f
unfolding mul of_bits
no_low = refl

no_turns : (s : Bool) → of_int binary64 (signed s 0) ≡ zero_f
unfolding of_int of_bits
no_turns true = refl
no_turns false = refl

less_none : (x : Float) → less_turns zero_f x ≡ x ⊖ zero_f ⊖ zero_f ⊖ zero_f
unfolding less_turns
less_none x =
    ap (λ (z : Float). x ⊖ z ⊖ zero_f ⊗ (tau ⊖ tau_high) ⊖ zero_f ⊗ tau_low) no_high
    ∙ ap (λ (z : Float). x ⊖ zero_f ⊖ z ⊖ zero_f ⊗ tau_low) no_middle
    ∙ ap (λ (z : Float). x ⊖ zero_f ⊖ zero_f ⊖ z) no_low

-- an f64 less zero is itself
pub less_zero_same : (x : Float) → T (fits binary64 x) → T (finite x) → x ⊖ zero_f ≡ x
less_zero_same nan ft f = absurd f
less_zero_same (inf s) ft f = absurd f
less_zero_same (fin s m e) ft f =
    less_zero s m e ∙ ap₂ (λ (a b : ℕ). round binary64 s a b) (mul-one (m * up e)) (mul-one (down e)) ∙ round_itself binary64 (fin s m e) f ft

pub reduce_none : (x : Float) → Mag (2 ^ 20) 0 x → nearest_size (x ⊘ tau) ≡ 0 → reduce x ≡ x ⊖ zero_f ⊖ zero_f ⊖ zero_f
unfolding reduce
reduce_none x h e = ap (λ (q : Float). less_turns q x) (k_is x h ∙ ap (λ (n : ℕ). of_int binary64 (signed (sgn x) n)) e ∙ no_turns (sgn x)) ∙ less_none x

less_none_neg : (x : Float) → less_turns zero_f (neg x) ≡ neg (less_turns zero_f x)
less_none_neg x =
    less_none (neg x)
    ∙ ap (λ (z : Float). z ⊖ zero_f ⊖ zero_f) (less_zero_neg x)
    ∙ ap (λ (z : Float). z ⊖ zero_f) (less_zero_neg (x ⊖ zero_f))
    ∙ less_zero_neg (x ⊖ zero_f ⊖ zero_f)
    ∙ ap neg (sym (less_none x))

-- ---- one turn and more: what is taken off is not zero
zero_sum : (t : Bool) (n c : ℕ) → 0 < n → sum binary64 false 0 t n c ≡ round binary64 t n c
unfolding sum
zero_sum false n c h = ap (λ (z : ℕ). round binary64 false z c) (zero-add n)
zero_sum true n c h = go (ltb 0 n) (lt→ltb 0 n h)
  where
    go : (u : Bool) → T u → cond u (round binary64 true (n - 0) c) (round binary64 false (0 - n) c) ≡ round binary64 true n c
    go true t = ap (λ (z : ℕ). round binary64 true z c) (sub-zero n)
    go false t = absurd t

zero_less : (v : Float) → T (finite v) → 0 < num v → zero_f ⊖ v ≡ round binary64 (not (sgn v)) (num v) (den v)
zero_less v f h = at v f h
  where
    at : (v : Float) → T (finite v) → 0 < num v → zero_f ⊖ v ≡ round binary64 (not (sgn v)) (num v) (den v)
    at nan f h = absurd f
    at (inf s) f h = absurd f
    at (fin s m e) f h = opened ∙ ap (λ (n : ℕ). sum binary64 false n (not s) (m * up e * 1) (1 * down e)) (zero-mul (down e)) ∙ ap (λ (n : ℕ). sum binary64 false 0 (not s) n (1 * down e)) (mul-one (m * up e)) ∙ ap (λ (n : ℕ). sum binary64 false 0 (not s) (m * up e) n) (one-mul (down e)) ∙ zero_sum (not s) (m * up e) (down e) h
      where
        opened : zero_f ⊖ fin s m e ≡ sum binary64 false (0 * 1 * down e) (not s) (m * up e * 1) (1 * down e)
        opened = unfold sub add neg of_bits in refl

num_neg : (v : Float) → num (neg v) ≡ num v
unfolding neg
num_neg nan = refl
num_neg (inf s) = refl
num_neg (fin s m e) = refl

den_neg : (v : Float) → den (neg v) ≡ den v
unfolding neg
den_neg nan = refl
den_neg (inf s) = refl
den_neg (fin s m e) = refl

finite_neg : (v : Float) → T (finite v) → T (finite (neg v))
unfolding neg
finite_neg nan f = absurd f
finite_neg (inf s) f = absurd f
finite_neg (fin s m e) f = tt

step : {u u' : Float} (v : Float) → T (finite v) → 0 < num v → Opposite u u' → Opposite (u ⊖ v) (u' ⊖ neg v)
step {u} {u'} v f h (inl e) = subst (λ (z : Float). Opposite (u ⊖ v) (z ⊖ neg v)) (sym e) (sub_neg u v)
step {u} {u'} v f h (inr e) = inl (
    ap (λ (z : Float). z ⊖ neg v) e.1
    ∙ zero_less (neg v) (finite_neg v f) (subst (λ (n : ℕ). 0 < n) (sym (num_neg v)) h)
    ∙ ap (λ (b : Bool). round binary64 (not b) (num (neg v)) (den (neg v))) (sgn_neg v f)
    ∙ ap₂ (λ (n d : ℕ). round binary64 (not (not (sgn v))) n d) (num_neg v) (den_neg v)
    ∙ sym (round_neg binary64 (not (sgn v)) (num v) (den v))
    ∙ ap neg (sym (ap (λ (z : Float). z ⊖ v) e.0 ∙ zero_less v f h)))

whole_in : (K : ℕ) → 0 < K → K ≤ 166886 → In 1 0 166886 0 (of_int binary64 (pos K))
unfolding of_int
whole_in K P h = round_in K 1 1 1 166886 1 1 0 166886 0 one one one (lo K P) (hi K h) tt
  where
    one : 0 < 1
    one = omega arith

    lo : (K : ℕ) → 0 < K → 1 * 1 ≤ K * 1
    lo K P = omega arith

    hi : (K : ℕ) → K ≤ 166886 → K * 1 ≤ 166886 * 1
    hi K h = omega arith

some : {i p j : ℕ} {v : Float} → In 1 i p j v → 0 < num v
some {i} {p} {j} {v} h = first_pos (num v) (2 ^ i) (lt_of_lt_of_le (mul-pos (lit≤ {m = 1} {n = 1} tt) (den_pos v)) h.least)

minus_whole : (k : ℕ) → of_int binary64 (signed true (suc k)) ≡ neg (of_int binary64 (pos (suc k)))
unfolding of_int
minus_whole k = sym (round_neg binary64 false (suc k) 1)

less_some : (x : Float) (k : ℕ) → suc k ≤ 166886 → Opposite (less_turns (of_int binary64 (pos (suc k))) x) (less_turns (neg (of_int binary64 (pos (suc k)))) (neg x))
unfolding less_turns
less_some x k h =
    let K = of_int binary64 (pos (suc k)) in
    let w : In 1 0 166886 0 K = whole_in (suc k) (above k) h in
    let m : In 1 24 1 6 (K ⊗ (tau ⊖ tau_high)) = mul_in w middle_in tt in
    let l : In 1 53 1 30 (K ⊗ tau_low) = mul_in w low_in tt in
    let o = step (K ⊗ tau_low) (in_mag l).fine (some l) (step (K ⊗ (tau ⊖ tau_high)) (in_mag m).fine (some m) (sub_neg x (K ⊗ tau_high))) in
    subst (λ (z : Float). Opposite (x ⊖ K ⊗ tau_high ⊖ K ⊗ (tau ⊖ tau_high) ⊖ K ⊗ tau_low) z)
    (sym
    (ap (λ (z : Float). neg x ⊖ z ⊖ neg K ⊗ (tau ⊖ tau_high) ⊖ neg K ⊗ tau_low) (mul_neg K tau_high)
    ∙ ap (λ (z : Float). neg x ⊖ neg (K ⊗ tau_high) ⊖ z ⊖ neg K ⊗ tau_low) (mul_neg K (tau ⊖ tau_high))
    ∙ ap (λ (z : Float). neg x ⊖ neg (K ⊗ tau_high) ⊖ neg (K ⊗ (tau ⊖ tau_high)) ⊖ z) (mul_neg K tau_low)))
    o
  where
    above : (k : ℕ) → 0 < suc k
    above k = omega arith

-- ---- for an x whose sign is clear, and so for every x
less_odd : (x : Float) (K : ℕ) → K ≤ 166886 → Opposite (less_turns (of_int binary64 (signed false K)) x) (less_turns (of_int binary64 (signed true K)) (neg x))
less_odd x zero h =
    inl (ap (λ (z : Float). less_turns z (neg x)) (no_turns true) ∙ less_none_neg x ∙ ap (λ (z : Float). neg (less_turns z x)) (sym (no_turns false)))
less_odd x (suc k) h = subst (λ (z : Float). Opposite (less_turns (of_int binary64 (pos (suc k))) x) (less_turns z (neg x))) (sym (minus_whole k)) (less_some x k h)

clear_odd : (x : Float) → Mag (2 ^ 20) 0 x → sgn x ≡ false → Opposite (reduce x) (reduce (neg x))
unfolding reduce
clear_odd x h c =
    let K = nearest_size (x ⊘ tau) in
    let a : nearest_whole (x ⊘ tau) ≡ of_int binary64 (signed false K) = k_is x h ∙ ap (λ (s : Bool). of_int binary64 (signed s K)) c in
    let b : nearest_whole (neg x ⊘ tau) ≡ of_int binary64 (signed true K) =
    k_is (neg x) (neg_mag h)
    ∙ ap (λ (s : Bool). of_int binary64 (signed s (nearest_size (neg x ⊘ tau)))) (sgn_neg x h.fine ∙ ap not c)
    ∙ ap (λ (n : ℕ). of_int binary64 (signed true n)) (ap nearest_size (div_neg x tau) ∙ turns_neg (x ⊘ tau)) in
    subst (λ (z : Float). Opposite (less_turns z x) (less_turns (nearest_whole (neg x ⊘ tau)) (neg x))) (sym a)
    (subst (λ (z : Float). Opposite (less_turns (of_int binary64 (signed false K)) x) (less_turns z (neg x))) (sym b) (less_odd x K (turns_of x h).most))

pub opposite_sym : {x y : Float} → Opposite x y → Opposite y x
opposite_sym {x} {y} (inl e) = inl (sym (ap neg e ∙ neg_neg x))
opposite_sym {x} {y} (inr e) = inr (e.1, e.0)

pub reduce_odd : (x : Float) → Mag (2 ^ 20) 0 x → Opposite (reduce x) (reduce (neg x))
reduce_odd x h = go (sgn x) refl
  where
    go : (s : Bool) → sgn x ≡ s → Opposite (reduce x) (reduce (neg x))
    go false e = clear_odd x h e
    go true e =
        opposite_sym (subst (λ (z : Float). Opposite (reduce (neg x)) (reduce z)) (neg_neg x) (clear_odd (neg x) (neg_mag h) (sgn_neg x h.fine ∙ ap not e)))

pub first_line_odd : (x : Float) → Opposite (first_line x) (first_line (neg x))
unfolding first_line
first_line_odd x =
    subst (λ (z : Float). Opposite (cond (le (abs x) turns_limit) (reduce x) (rem binary64 x tau)) (cond (le z turns_limit) (reduce (neg x)) (rem binary64 (neg x) tau))) (sym (abs_neg x))
    (pick (le (abs x) turns_limit) (λ t. reduce_odd x (limit_mag x t)) (inl (rem_neg binary64 x tau)))
  where
    pick : (b : Bool) {u u' v v' : Float} → (T b → Opposite u u') → Opposite v v' → Opposite (cond b u v) (cond b u' v')
    pick true f g = f tt
    pick false f g = g
