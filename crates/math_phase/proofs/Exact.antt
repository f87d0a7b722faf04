-- x - k·T1 and that less k·(T - T1) are exact for every f64 up to 2 ^ 20 in size with a k that is not 0; with no turn r is x itself. So |r| is at most π + 354,200 / 2 ^ 51. Assumes nothing.
use mathlib.Core.Path.{◌≡◌, refl, sym, ap, ◌∙◌, subst}
use Prim.Native.Nat.{ℕ, zero, suc, ◌+◌, ◌-◌, ◌*◌, ◌^◌, ◌≤◌, ◌<◌}
use native.Mathlib.Nat.{le_trans, le_of_eq, le_of_lt, lt_of_lt_of_le, lt_of_le_of_lt, lt_of_not-le, mul_assoc, mul_right_comm, mul-le-mul_right, mul-lt-mul_of_pos_right, lt_of_mul-lt-mul_right, le_of_mul-le-mul_right, eq_of_mul-eq-mul_right}
use native.Mathlib.Omega.{arith}
use mathlib.Core.Bool.{Bool}
use lib.Dec.{T, lit≤}
use lib.Pow.{pow-add, pow_pos}
use lib.IntN.{ℤ, pos, nat_abs, ◌-ℤ◌, ◌*ℤ◌}
use lib.Ieee.{Float, binary64, fits, of_int, of_bits}
use lib.Ieee.Positive.{num, den, den_pos}
use Rattle.ieee.specs.Operators.{◌⊖◌, ◌⊗◌, ◌⊘◌}
use Rattle.ieee.specs.Functions.{zero_f}
use Rattle.ieee.specs.Range.{sgn, Mag, In}
use Rattle.ieee.proofs.Range.Values.{pow_lt_back, split_pow, whole}
use Rattle.ieee.proofs.Range.Laws.{in_lit, in_mag, mul_mag}
use Rattle.ieee.proofs.Range.Sums.{sub_mag}
use Rattle.whole_f64.specs.Whole.{signed, Is}
use Rattle.whole_f64.proofs.Laws.{size_of, exact_operations}
use Rattle.whole_f64.proofs.Bounds.{finer}
use Rattle.whole_nearest.specs.Nearest.{nearest_size, nearest_whole}
use Rattle.math_trig.specs.Angles.{tau, tau_high, tau_low}
use Rattle.math_trig.specs.Trig.{less_turns, reduce}
use Rattle.math_phase.specs.Claim.{high_count, rest_count, Exact}
use Rattle.math_phase.proofs.Whole.{twice, apart}
use Rattle.math_trig.proofs.Turns.{M, Turns, turns_of, none_below_two}
use Rattle.math_trig.proofs.Less.{A, B, high_is, middle_is, whole_mag, signed_times, times, k_is}
use Rattle.math_trig.proofs.Turned.{less_zero_same, reduce_none}

-- ---- an f64 above 2 is a whole number of 2 ^ -51
-- for a + 2 digits and the smallest value 2 ^ -(a + u)
coarse : (a u N d m j : ℕ) → 0 < d → m < 2 ^ (a + 2) → N * 2 ^ (a + u) ≡ m * 2 ^ j * d → 2 * d < N → (X : ℕ) × (N * 2 ^ a ≡ X * d)
coarse a u N d m j D few is big =
    let e : 2 ^ (1 + (a + u)) < m * 2 ^ j =
    lt_of_mul-lt-mul_right d
    (lt_of_le_of_lt (le_of_eq (ap (λ (z : ℕ). z * d) (pow-add 2 1 (a + u)) ∙ mul_right_comm 2 (2 ^ (a + u)) d))
    (lt_of_lt_of_le (mul-lt-mul_of_pos_right big (pow_pos (a + u))) (le_of_eq is))) in
    let g : 2 ^ (1 + (a + u)) < 2 ^ (a + 2 + j) = lt_of_lt_of_le e (le_trans (le_of_lt (mul-lt-mul_of_pos_right few (pow_pos j))) (le_of_eq (sym (pow-add 2 (a + 2) j)))) in
    let l : u ≤ j = less a u j (pow_lt_back (1 + (a + u)) (a + 2 + j) g) in (
      m * 2 ^ (j - u),
      eq_of_mul-eq-mul_right (2 ^ u) (pow_pos u) (N * 2 ^ a) (m * 2 ^ (j - u) * d)
          (mul_assoc N (2 ^ a) (2 ^ u) ∙ ap (λ (z : ℕ). N * z) (sym (pow-add 2 a u)) ∙ is ∙ ap (λ (z : ℕ). z * d) (split_pow m u j l) ∙ mul_right_comm (m * 2 ^ (j - u)) (2 ^ u) d),
    )
  where
    less : (a u j : ℕ) → 1 + (a + u) < a + 2 + j → u ≤ j
    less a u j h = omega arith

-- ---- the counts, in units of 2 ^ -51: T, and T/2 + 2 ^ -33
abbrev pub tau_count : ℕ
tau_count = 14148475504056880

abbrev pub half_turn : ℕ
half_turn = 7074237752290584

record Counts (K X : ℕ) : Type 0 where
  most : K ≤ 166886
  under : K * tau_count ≤ X + half_turn
  over : X ≤ K * tau_count + half_turn

counts : (K X N d : ℕ) → 0 < d → N * 2 ^ 51 ≡ X * d → Turns K N d → Counts K X
counts K X N d D e t = record {
  most = t.most;
  under = le_of_mul-le-mul_right (lower K X N d e t.under) D;
  over = le_of_mul-le-mul_right (upper K X N d e t.over) D;
}
  where
    lower : (K X N d : ℕ) → N * 2 ^ 51 ≡ X * d → 2 * M * (K * d) ≤ 2 ^ 48 * N + (M + 2 ^ 15) * d → K * tau_count * d ≤ (X + half_turn) * d
    lower K X N d e h = omega arith

    upper : (K X N d : ℕ) → N * 2 ^ 51 ≡ X * d → 2 ^ 48 * N ≤ 2 * M * (K * d) + (M + 2 ^ 15) * d → X * d ≤ (K * tau_count + half_turn) * d
    upper K X N d e h = omega arith

-- a whole number of 2 ^ -j is one of 2 ^ -(j + i)
in_units : (i : ℕ) {j : ℕ} {y : Float} (s : Bool) (n : ℕ) → Is j y (signed s n) → Is (j + i) y (signed s (n * 2 ^ i))
in_units i {j} {y} s n h =
    subst (λ (z : ℤ). Is (j + i) y z) (signed_times s n (2 ^ i))
    (finer i (record { is = h; most = le_of_eq refl })).is

module _ (x : Float) (h : Mag (2 ^ 20) 0 x) (ft : T (fits binary64 x)) where
  abbrev s : Bool
  s = sgn x

  abbrev K : ℕ
  K = nearest_size (x ⊘ tau)

  abbrev k : Float
  k = of_int binary64 (signed s K)

  above_two : 0 < K → 2 * den x < num x
  above_two P = lt_of_not-le (λ (g : num x ≤ 2 * den x). none K P (none_below_two x h.fine g))
    where
      none : (K : ℕ) → 0 < K → K ≡ 0 → ⊥
      none K P e = omega arith

  xs : 0 < K → (X : ℕ) × (num x * 2 ^ 51 ≡ X * den x)
  xs P = let w = whole binary64 x h.fine ft in coarse 51 1023 (num x) (den x) w.m w.j (den_pos x) w.few w.is (above_two P)

  module _ (P : 0 < K) where
    abbrev X : ℕ
    X = (xs P).0

    c : Counts K X
    c = counts K X (num x) (den x) (den_pos x) (xs P).1 (turns_of x h)

    x_is : Is 51 x (signed s X)
    x_is = record {
      fine = h.fine;
      size = (xs P).1 ∙ ap (λ (n : ℕ). n * den x) (sym (size_of s X));
      sign = ap (signed s) (size_of s X);
    }

    few_high : (K : ℕ) → K ≤ 166886 → K * A < 2 ^ 53
    few_high K h = omega arith

    few_rest : (K : ℕ) → K ≤ 166886 → K * B < 2 ^ 53
    few_rest K h = omega arith

    high : Is 51 (k ⊗ tau_high) (signed s (K * A * 2 ^ 29))
    high = in_units 29 s (K * A) (times s K A 22 tau_high c.most high_is (few_high K c.most) (lit≤ {m = 22} {n = 1074} tt))

    rest : Is 51 (k ⊗ (tau ⊖ tau_high)) (signed s (K * B * 2 ^ 4))
    rest = in_units 4 s (K * B) (times s K B 47 (tau ⊖ tau_high) c.most middle_is (few_rest K c.most) (lit≤ {m = 47} {n = 1074} tt))

    first_up : (K X : ℕ) → K ≤ 166886 → X ≤ K * tau_count + half_turn → X ≤ K * A * 2 ^ 29 + 9007199254740991
    first_up K X a b = omega arith

    first_down : (K X : ℕ) → K * tau_count ≤ X + half_turn → K * A * 2 ^ 29 ≤ X + 9007199254740991
    first_down K X a = omega arith

    first : Is 51 (x ⊖ k ⊗ tau_high) (signed s X -ℤ signed s (K * A * 2 ^ 29))
    first =
        exact_operations.difference x_is high
        (lt_of_le_of_lt (apart s X (K * A * 2 ^ 29) 9007199254740991 (first_up K X c.most c.over) (first_down K X c.under)) (lit≤ {m = suc 9007199254740991} {n = 2 ^ 53} tt))
        (lit≤ {m = 51} {n = 1074} tt)

    together : (K : ℕ) → K * A * 2 ^ 29 + K * B * 2 ^ 4 ≡ K * tau_count
    together K = omega arith

    less_is : signed s X -ℤ signed s (K * A * 2 ^ 29) -ℤ signed s (K * B * 2 ^ 4) ≡ signed s X -ℤ signed s (K * tau_count)
    less_is = twice s X (K * A * 2 ^ 29) (K * B * 2 ^ 4) ∙ ap (λ (n : ℕ). signed s X -ℤ signed s n) (together K)

    left : nat_abs (signed s X -ℤ signed s (K * tau_count)) ≤ half_turn
    left = apart s X (K * tau_count) half_turn c.over c.under

    second : Is 51 (x ⊖ k ⊗ tau_high ⊖ k ⊗ (tau ⊖ tau_high)) (signed s X -ℤ signed s (K * tau_count))
    second =
        subst (λ (z : ℤ). Is 51 (x ⊖ k ⊗ tau_high ⊖ k ⊗ (tau ⊖ tau_high)) z) less_is
        (exact_operations.difference first rest
        (lt_of_le_of_lt (subst (λ (z : ℤ). nat_abs z ≤ half_turn) (sym less_is) left) (lit≤ {m = suc half_turn} {n = 2 ^ 53} tt))
        (lit≤ {m = 51} {n = 1074} tt))

    -- K·c as k·c, by the counts of the claim
    by_turns : (n c : ℕ) → n ≡ K * c → signed s n ≡ signed s K *ℤ pos c
    by_turns n c e = ap (signed s) e ∙ sym (signed_times s K c)

    by_high : signed s (K * A * 2 ^ 29) ≡ signed s K *ℤ pos high_count
    by_high = by_turns (K * A * 2 ^ 29) high_count (at K)
      where
        at : (K : ℕ) → K * A * 2 ^ 29 ≡ K * high_count
        at K = omega arith

    by_rest : signed s (K * B * 2 ^ 4) ≡ signed s K *ℤ pos rest_count
    by_rest = by_turns (K * B * 2 ^ 4) rest_count (at K)
      where
        at : (K : ℕ) → K * B * 2 ^ 4 ≡ K * rest_count
        at K = omega arith

    by_both : signed s (K * tau_count) ≡ signed s K *ℤ pos (high_count + rest_count)
    by_both = by_turns (K * tau_count) (high_count + rest_count) (at K)
      where
        at : (K : ℕ) → K * tau_count ≡ K * (high_count + rest_count)
        at K = omega arith

    exact_at : Exact x
    exact_at = record {
      X = signed s X;
      is = x_is;
      high = subst (λ (q : Float). Is 51 (q ⊗ tau_high) (signed s K *ℤ pos high_count)) e (subst (λ (z : ℤ). Is 51 (k ⊗ tau_high) z) by_high high);
      rest = subst (λ (q : Float). Is 51 (q ⊗ (tau ⊖ tau_high)) (signed s K *ℤ pos rest_count)) e (subst (λ (z : ℤ). Is 51 (k ⊗ (tau ⊖ tau_high)) z) by_rest rest);
      first =
          subst (λ (q : Float). Is 51 (x ⊖ q ⊗ tau_high) (signed s X -ℤ signed s K *ℤ pos high_count)) e
          (subst (λ (z : ℤ). Is 51 (x ⊖ k ⊗ tau_high) (signed s X -ℤ z)) by_high first);
      second =
          subst (λ (q : Float). Is 51 (x ⊖ q ⊗ tau_high ⊖ q ⊗ (tau ⊖ tau_high)) (signed s X -ℤ signed s K *ℤ pos (high_count + rest_count))) e
          (subst (λ (z : ℤ). Is 51 (x ⊖ k ⊗ tau_high ⊖ k ⊗ (tau ⊖ tau_high)) (signed s X -ℤ z)) by_both second);
    }
      where
        e : k ≡ nearest_whole (x ⊘ tau)
        e = sym (k_is x h)

pub exact : (x : Float) → T (fits binary64 x) → Mag (2 ^ 20) 0 x → 0 < nearest_size (x ⊘ tau) → Exact x
exact x ft h P = exact_at x h ft P

is_mag : {j b : ℕ} {x : Float} {z : ℤ} → Is j x z → nat_abs z ≤ b → Mag b j x
is_mag {x = x} h m = record { fine = h.fine; most = le_trans (le_of_eq h.size) (mul-le-mul_right (den x) m) }

-- x - k·T by sizes: X is x, and the difference is at most T/2 + 2 ^ -33
pub record Left (x d : Float) : Type 0 where
  pub X : ℕ
  pub is : num x * 2 ^ 51 ≡ X * den x
  pub value : Is 51 d (signed (sgn x) X -ℤ signed (sgn x) (nearest_size (x ⊘ tau) * tau_count))
  pub most : Mag half_turn 51 d

pub left_is : (x : Float) → T (fits binary64 x) → Mag (2 ^ 20) 0 x → 0 < nearest_size (x ⊘ tau) → Left x (x ⊖ nearest_whole (x ⊘ tau) ⊗ tau_high ⊖ nearest_whole (x ⊘ tau) ⊗ (tau ⊖ tau_high))
left_is x ft h P =
    subst (λ (q : Float). Left x (x ⊖ q ⊗ tau_high ⊖ q ⊗ (tau ⊖ tau_high))) (sym (k_is x h))
    (record { X = X x h ft P; is = (xs x h ft P).1; value = second x h ft P; most = is_mag (second x h ft P) (left x h ft P) })

-- ---- no turn: r is x, in every bit
pub no_turn_same : (x : Float) → T (fits binary64 x) → Mag (2 ^ 20) 0 x → nearest_size (x ⊘ tau) ≡ 0 → reduce x ≡ x
unfolding reduce
no_turn_same x ft h e =
    reduce_none x h e
    ∙ ap (λ (z : Float). z ⊖ zero_f ⊖ zero_f) (less_zero_same x ft h.fine)
    ∙ ap (λ (z : Float). z ⊖ zero_f) (less_zero_same x ft h.fine)
    ∙ less_zero_same x ft h.fine

-- ---- |r| ≤ π + 354,200 / 2 ^ 51
pub low_exact : In 4967757600021511 104 4967757600021511 104 tau_low
unfolding of_bits
low_exact = in_lit tau_low tt

pub reduce_size : (x : Float) → T (fits binary64 x) → Mag (2 ^ 20) 0 x → Mag 7074237752382640 51 (reduce x)
reduce_size x ft h = go (nearest_size (x ⊘ tau)) refl
  where
    t : Turns (nearest_size (x ⊘ tau)) (num x) (den x)
    t = turns_of x h

    small : (X dx : ℕ) → 2 ^ 48 * X ≤ 2 * M * (0 * dx) + (M + 2 ^ 15) * dx → X * 2 ^ 51 ≤ 7074237752382640 * dx
    small X dx h = omega arith

    go : (K : ℕ) → nearest_size (x ⊘ tau) ≡ K → Mag 7074237752382640 51 (reduce x)
    go zero e =
        subst (λ (z : Float). Mag 7074237752382640 51 z) (sym (no_turn_same x ft h e))
        (record { fine = h.fine; most = small (num x) (den x) (subst (λ (K : ℕ). Turns K (num x) (den x)) e t).over })
    go (suc K) e = unfold reduce less_turns in
        (let q : Mag 166886 0 (nearest_whole (x ⊘ tau)) = subst (λ (z : Float). Mag 166886 0 z) (sym (k_is x h)) (whole_mag (sgn x) (nearest_size (x ⊘ tau)) t.most) in
        let l : Mag 47125991 60 (nearest_whole (x ⊘ tau) ⊗ tau_low) = mul_mag q (in_mag low_exact) tt in
        sub_mag (left_is x ft h (subst (λ (K : ℕ). 0 < K) (sym e) (above K))).most l tt)
      where
        above : (K : ℕ) → 0 < suc K
        above K = omega arith
