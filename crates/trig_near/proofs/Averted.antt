-- sin and cos of an angle whose rest is beyond π/2: it is taken from π, and beyond π first from 2π. Assumes nothing.
use mathlib.Core.Path.{◌≡◌, refl, sym, ap, ap₂, ◌∙◌, subst}
use mathlib.Core.Logic.{◌⊎◌, inl, inr}
use mathlib.Core.Bool.{Bool, true, false, not}
use mathlib.Core.List.{[], ◌∷◌}
use Prim.Native.Nat.{ℕ, suc, ◌+◌, ◌-◌, ◌*◌, ◌^◌, ◌≤◌, ◌<◌}
use native.Mathlib.Nat.{lt_of_lt_of_le, le_trans, le_of_eq, le_of_lt, lt_of_not-le, mul-one, mul_comm, mul-le-mul_right, mul-le-mul_left, le_of_mul-le-mul_right, mul-pos, mul-sub, add-mul}
use native.Mathlib.Decide.{dec_le}
use native.Mathlib.Omega.{arith}
use lib.Dec.{T, lit≤}
use lib.Pow.{pow_pos}
use lib.IntN.{ℤ, pos, neg_ℤ, nat_abs, ◌+ℤ◌, ◌-ℤ◌, ◌*ℤ◌, neg_ℤ-neg_ℤ}
use lib.Ieee.{Float, nan, inf, fin, binary64, unlike, fits, neg, lt, of_bits}
use lib.Ieee.Bits.{cond_no}
use lib.Ieee.Fits.{sub-fits}
use lib.Ieee.Positive.{num, den}
use lib.Ieee.Scale.{finite}
use Rattle.ieee.specs.Operators.{◌⊖◌, ◌⊘◌}
use Rattle.ieee.specs.Functions.{zero_f, abs}
use Rattle.ieee.specs.Range.{sgn, plus, In, Mag}
use Rattle.ieee.specs.Count.{count}
use Rattle.ieee.proofs.Count.{count_is}
use Rattle.ieee.proofs.Range.Laws.{in_mag, abs_in, plus_finite, plus_sgn}
use Rattle.ieee.proofs.Range.Sums.{sub_gap}
use Rattle.ieee.proofs.Range.Tests.{lt_in, nlt_most, never_below, surely_below}
use Rattle.ieee_near.specs.Index.{gap}
use Rattle.whole_ring.proofs.Solver.{var, con, ◌:+◌, ◌:*◌, opp, identity}
use Rattle.whole_f64.specs.Whole.{signed}
use Rattle.whole_f64.proofs.Laws.{size_of, size_neg, signed_sub, signed_mul}
use Rattle.whole_nearest.specs.Nearest.{nearest_size}
use Rattle.near_abs.specs.Off.{Within}
use Rattle.near_abs.proofs.Within.{known, times}
use Rattle.near_abs.proofs.Counts.{U, Held, count_most, count_least, Result, sub_off, sub_clear, sub_turned}
use Rattle.math_trig.specs.Angles.{tau, pi, minus_pi, half_pi, minus_half_pi}
use Rattle.math_trig.specs.Trig.{wrap, reduce, fold, second_fold, cos_at, cos_of, cos, sin}
use Rattle.math_trig.specs.Opposite.{Opposite}
use Rattle.math_trig.proofs.TrigBounds.{pi_in, fold_mag, second_fold_mag, sin_mag}
use Rattle.math_trig.proofs.Constants.{minus_pi_is, minus_half_pi_is}
use Rattle.math_trig.proofs.Opposites.{neg_neg, lt_neg, sub_neg, opposite_abs}
use Rattle.math_trig.proofs.Turned.{div_neg, turns_neg, sgn_neg, reduce_odd}
use Rattle.math_trig.proofs.Parity.{sin_odd, cos_even}
use Rattle.math_trig.proofs.Turns.{M, tau_in, limit_mag}
use Rattle.math_phase.specs.Claim.{Thick, turns, value, two_pi}
use Rattle.math_phase.proofs.Claim.{phase}
use Rattle.trig_near.specs.Claim.{OffBy, CosineAt, SineAt, TwoPi, left, Facing, Averted, across}
use Rattle.trig_near.specs.Sums.{top, bottom, sine_steps, cosine_steps, sine_bottom}
use Rattle.trig_near.proofs.Sizes.{minus, whole, add_size, mul_size, sizes, signs}
use Rattle.trig_near.proofs.Sums.{apart}
use Rattle.trig_near.proofs.Angle.{P, Beside, turned, crossed, crossed², crossing}
use Rattle.trig_near.proofs.Turned.{half_pi_in, cond_yes, reduce_fits, abs_fits, abs_count, turned_off, cosine_at, sine_at}
use Rattle.trig_near.proofs.Facing.{thick_finite, first_is, tau_held, neg_thick, up_to_half}

-- ---- values with their signs
-- a difference of two, each with a clear sign
sub_value : {x y : Float} (e : ℕ) → e ≤ 1100 → T (plus x) → T (plus y) → Held x → Held y → gap (count x) (count y) < 2 ^ (53 + suc e) * 1 → nat_abs (value (x ⊖ y) -ℤ (value x -ℤ value y)) ≤ 2 ^ e
sub_value {x} {y} e m px py hx hy small =
    subst (λ (s : Bool). nat_abs (value (x ⊖ y) -ℤ (signed s (count x) -ℤ value y)) ≤ 2 ^ e) (sym (plus_sgn x px))
    (subst (λ (s : Bool). nat_abs (value (x ⊖ y) -ℤ (pos (count x) -ℤ signed s (count y))) ≤ 2 ^ e) (sym (plus_sgn y py)) (go (dec_le (count y) (count x))))
  where
    w : Within (2 ^ e * 1) (count (x ⊖ y) * 1) (gap (count x) (count y))
    w = (sub_off e m px py hx hy small).off

    near : (c d : ℕ) → gap (count x) (count y) ≡ d → c ≡ count (x ⊖ y) → nat_abs (pos c -ℤ pos d) ≤ 2 ^ e
    near c d g i = let v = known (mul-one (2 ^ e)) (mul-one (count (x ⊖ y)) ∙ sym i) g w in apart c d (2 ^ e) v.most v.least

    first : (a b : ℕ) → b ≤ a → gap a b ≡ a - b
    first a b h = omega (arith, h)

    second : (a b : ℕ) → a ≤ b → gap a b ≡ b - a
    second a b h = omega (arith, h)

    go : Dec (count y ≤ count x) → nat_abs (value (x ⊖ y) -ℤ (pos (count x) -ℤ pos (count y))) ≤ 2 ^ e
    go (yes h) =
        subst (λ (s : Bool). nat_abs (signed s (count (x ⊖ y)) -ℤ (pos (count x) -ℤ pos (count y))) ≤ 2 ^ e) (sym (sub_clear px py hx hy h))
        (subst (λ (z : ℤ). nat_abs (pos (count (x ⊖ y)) -ℤ z) ≤ 2 ^ e) (sym (signed_sub false (count x) (count y) h)) (near (count (x ⊖ y)) (count x - count y) (first (count x) (count y) h) refl))
    go (no n) =
        let h : count x < count y = lt_of_not-le n in
        let c = count (x ⊖ y) in
        subst (λ (s : Bool). nat_abs (signed s c -ℤ (pos (count x) -ℤ pos (count y))) ≤ 2 ^ e) (sym (sub_turned px py hx hy h))
        (le_trans
        (le_of_eq
        (ap nat_abs (identity (opp (var 0) :+ opp (var 1 :+ opp (var 2))) (opp (var 0 :+ opp (var 2 :+ opp (var 1)))) tt (pos c ∷ pos (count x) ∷ pos (count y) ∷ []))
        ∙ size_neg (pos c -ℤ (pos (count y) -ℤ pos (count x)))))
        (subst (λ (z : ℤ). nat_abs (pos c -ℤ z) ≤ 2 ^ e) (sym (signed_sub false (count y) (count x) (le_of_lt h))) (near c (count y - count x) (second (count x) (count y) (le_of_lt h)) refl)))

value_neg : (x : Float) → T (finite x) → value (neg x) ≡ neg_ℤ (value x)
unfolding neg count
value_neg nan f = absurd f
value_neg (inf s) f = absurd f
value_neg (fin true m e) f = sym (neg_ℤ-neg_ℤ _)
value_neg (fin false m e) f = refl

zero_value : value zero_f ≡ pos 0
unfolding count of_bits
zero_value = refl

opposite_value : {x y : Float} → T (finite x) → Opposite x y → value y ≡ neg_ℤ (value x)
opposite_value {x} f (inl e) = ap value e ∙ value_neg x f
opposite_value f (inr e) = ap value e.1 ∙ zero_value ∙ ap neg_ℤ (sym (ap value e.0 ∙ zero_value))

abs_same : (x : Float) → T (finite x) → sgn x ≡ false → abs x ≡ x
unfolding abs
abs_same nan f e = absurd f
abs_same (inf s) f e = absurd f
abs_same (fin false m e') f e = refl
abs_same (fin true m e') f e = absurd (subst (λ (b : Bool). T b) e tt)

abs_turned : (x : Float) → T (finite x) → sgn x ≡ true → x ≡ neg (abs x)
unfolding abs neg
abs_turned nan f e = absurd f
abs_turned (inf s) f e = absurd f
abs_turned (fin true m e') f e = refl
abs_turned (fin false m e') f e = absurd (subst (λ (b : Bool). T b) (sym e) tt)

-- ---- π and 2π
pi_held : Held pi
unfolding fits of_bits
pi_held = record { fine = tt; held = tt }

pi_value : value pi ≡ pos (count pi)
unfolding of_bits
pi_value = refl

tau_value : value tau ≡ pos (count pi) +ℤ pos (count pi)
unfolding count of_bits
tau_value = refl

pi_least : two_pi * 2 ^ 964 + 2 ^ 964 ≤ count pi * 2 + 9 * 2 ^ 1019
unfolding count of_bits
pi_least = lit≤ tt

pi_under : count pi * 2 ≤ two_pi * 2 ^ 964
unfolding count of_bits
pi_under = lit≤ tt

-- the f64 π beside P / 2Q
pi_off : (P Q : ℕ) → TwoPi P Q → nat_abs (value pi *ℤ pos (2 * Q) -ℤ pos (P * 2 ^ 1074)) ≤ 9 * 2 ^ 1019 * Q
pi_off P Q t =
    subst (λ (z : ℤ). nat_abs (z *ℤ pos (2 * Q) -ℤ pos (P * 2 ^ 1074)) ≤ 9 * 2 ^ 1019 * Q) (sym pi_value)
    (apart (count pi * (2 * Q)) (P * 2 ^ 1074) (9 * 2 ^ 1019 * Q)
    (under (count pi) two_pi (2 ^ 110) (2 ^ 964) P Q (2 ^ 1074) (9 * 2 ^ 1019 * Q) refl pi_under t.least)
    (over (count pi) two_pi (2 ^ 110) (2 ^ 964) P Q (2 ^ 1074) (9 * 2 ^ 1019) refl pi_least t.most))
  where
    under : (c p a b P Q u g : ℕ) → u ≡ a * b → c * 2 ≤ p * b → p * Q ≤ P * a → c * (2 * Q) ≤ P * u + g
    under c p a b P Q u g e h i =
        let j : c * 2 * Q ≤ p * b * Q = mul-le-mul_right Q h in
        let k : p * Q * b ≤ P * a * b = mul-le-mul_right b i in
        let l : P * u ≡ P * (a * b) = ap (λ (z : ℕ). P * z) e in
        omega (arith, j, k, l)

    over : (c p a b P Q u g : ℕ) → u ≡ a * b → p * b + b ≤ c * 2 + g → P * a ≤ (p + 1) * Q → P * u ≤ c * (2 * Q) + g * Q
    over c p a b P Q u g e h i =
        let j : (p * b + b) * Q ≤ (c * 2 + g) * Q = mul-le-mul_right Q h in
        let k : P * a * b ≤ (p + 1) * Q * b = mul-le-mul_right b i in
        let l : P * u ≡ P * (a * b) = ap (λ (z : ℕ). P * z) e in
        omega (arith, j, k, l)

-- an f64 whose count is 3 at least
from_count : (x : Float) → Held x → 3 * U ≤ count x → 3 * den x ≤ num x * 2 ^ 0
from_count x h l = le_of_mul-le-mul_right (go (num x) (den x) (count x) U (count_is x h.held h.fine) l) (pow_pos 1074)
  where
    go : (n d c v : ℕ) → c * d ≡ n * v → 3 * v ≤ c → 3 * d * v ≤ n * 2 ^ 0 * v
    go n d c v e l = let i : 3 * v * d ≤ c * d = mul-le-mul_right d l in omega (arith, e, i)

-- ---- in counts: r from π to π + 354,200 / 2 ^ 51, c the f64 2π and p the f64 π
two_pi_least : (c u : ℕ) → M * u ≤ c * 2 ^ 47 → 628 * u ≤ 100 * c
two_pi_least c u h = omega (arith, h)

rest_most : (r u : ℕ) → r * 2 ^ 51 ≤ (P + 354200) * u → 100 * r ≤ 315 * u
rest_most r u h = omega (arith, h)

three : (r c f u e : ℕ) → 100 * r ≤ 315 * u → 628 * u ≤ 100 * c → gap r c ≤ f * 1 + e * 1 → 100 * e ≤ u → 3 * u ≤ f
three r c f u e a b g l = omega (arith, a, b, g, l)

tiny : (e u : ℕ) → e * 2 ^ 51 ≤ u → 100 * e ≤ u
tiny e u h = omega (arith, h)

least : (r c f u e : ℕ) → r * 2 ^ 51 ≤ (P + 354200) * u → M * u ≤ c * 2 ^ 47 → gap r c ≤ f * 1 + e * 1 → e * 2 ^ 51 ≤ u → 3 * u ≤ f
least r c f u e a b g l = three r c f u e (rest_most r u a) (two_pi_least c u b) g (tiny e u l)

share : (u : ℕ) → (P + 354200) * u ≡ P * u + 354200 * u
share u = omega arith

twice_most : (c u : ℕ) → c * 2 ^ 47 ≤ M * u → c * 2 ^ 51 ≤ 2 * (P * u)
twice_most c u h = omega (arith, h)

twice_least : (c u : ℕ) → M * u ≤ c * 2 ^ 47 → 2 * (P * u) ≤ c * 2 ^ 51
twice_least c u h = omega (arith, h)

-- 2π - r is π at most, and π less 354,200 at least; y is π times 2 ^ 51
order : (p r c y : ℕ) → y ≤ p * 2 ^ 51 → y ≤ r * 2 ^ 51 → c * 2 ^ 51 ≤ 2 * y → c - r ≤ p
order p r c y a d e = le_of_mul-le-mul_right {k = 2 ^ 51} (le_trans (le_of_eq (mul_comm (c - r) (2 ^ 51) ∙ mul-sub (2 ^ 51) c r)) (go (2 ^ 51 * c) (2 ^ 51 * r) (p * 2 ^ 51) y (le_trans (le_of_eq (mul_comm (2 ^ 51) c)) e) (le_trans d (le_of_eq (mul_comm r (2 ^ 51)))) a)) (pow_pos 51)
  where
    go : (c r p y : ℕ) → c ≤ 2 * y → y ≤ r → y ≤ p → c - r ≤ p
    go c r p y h i j = omega (arith, h, i, j)

order_least : (p r c y z : ℕ) → p * 2 ^ 51 ≤ y → r * 2 ^ 51 ≤ y + z → 2 * y ≤ c * 2 ^ 51 → p * 2 ^ 51 ≤ (c - r) * 2 ^ 51 + z
order_least p r c y z a d e = go (p * 2 ^ 51) (r * 2 ^ 51) (c * 2 ^ 51) ((c - r) * 2 ^ 51) y z a d e (le_trans (mul-le-mul_right (2 ^ 51) (split c r)) (le_of_eq (add-mul (c - r) r (2 ^ 51))))
  where
    split : (c r : ℕ) → c ≤ c - r + r
    split c r = omega arith

    go : (p r c d y z : ℕ) → p ≤ y → r ≤ y + z → 2 * y ≤ c → c ≤ d + r → p ≤ d + z
    go p r c d y z a b e f = omega (arith, a, b, e, f)

near_to : (p n m e z : ℕ) → n ≤ p → p * 2 ^ 51 ≤ n * 2 ^ 51 + z → m ≤ n + e → n ≤ m + e → gap p m * 2 ^ 51 ≤ z + e * 2 ^ 51
near_to p n m e z a b c d = le_trans (mul-le-mul_right (2 ^ 51) (go p n m e a c d)) (sum p n e z (2 ^ 51) a b)
  where
    go : (p n m e : ℕ) → n ≤ p → m ≤ n + e → n ≤ m + e → gap p m ≤ p - n + e
    go p n m e a c d = omega (arith, a, c, d)

    sum : (p n e z S : ℕ) → n ≤ p → p * S ≤ n * S + z → (p - n + e) * S ≤ z + e * S
    sum p n e z S a b = le_trans (le_of_eq (add-mul (p - n) e S ∙ ap (λ (w : ℕ). w + e * S) (mul_comm (p - n) S ∙ mul-sub S p n ∙ ap₂ ◌-◌ (mul_comm S p) (mul_comm S n)))) (take (p * S) (n * S) z (e * S) b)
      where
        take : (p n z e : ℕ) → p ≤ n + z → p - n + e ≤ z + e
        take p n z e h = omega (arith, h)

last : (g u e k : ℕ) → 0 < u → g * 2 ^ 51 ≤ 354200 * u + e * 2 ^ 51 → e * 2 ^ 51 ≤ u → u ≤ k * 2 ^ 20 → g < k * 1
last g u e k p h l j = omega (arith, p, h, l, j)

less : (r c u : ℕ) → 0 < u → r * 2 ^ 51 ≤ (P + 354200) * u → M * u ≤ c * 2 ^ 47 → r < c
less r c u p a b = omega (arith, p, a, b)

forward : (r c : ℕ) → r < c → gap r c ≡ c - r
forward r c h = omega (arith, h)

close : (p r c m u e k : ℕ) → 0 < u → p * 2 ^ 51 ≤ P * u → P * u ≤ p * 2 ^ 51 → P * u ≤ r * 2 ^ 51 → r * 2 ^ 51 ≤ (P + 354200) * u → c * 2 ^ 47 ≤ M * u → M * u ≤ c * 2 ^ 47 → Within (e * 1) (m * 1) (gap r c) → e * 2 ^ 51 ≤ u → u ≤ k * 2 ^ 20 → gap p m < k * 1
close p r c m u e k u0 a b d f g i w l j =
    let v : Within e m (c - r) = known (mul-one e) (mul-one m) (forward r c (less r c u u0 f i)) w in
    last (gap p m) u e k u0 (near_to p (c - r) m e (354200 * u) (order p r c (P * u) b d (twice_most c u g)) (order_least p r c (P * u) (354200 * u) a (le_trans f (le_of_eq (share u))) (twice_least c u i)) v.most v.least) l j

-- ---- what the folds leave of a rest above π/2
record Left (x : Float) : Type 0 where
  beyond : T (lt half_pi (abs (fold x)))
  off : nat_abs (value (second_fold (fold x)) -ℤ (value pi -ℤ value (reduce x))) ≤ 2 ^ 1022 + 2 ^ 1000
  size : count (pi ⊖ abs (fold x)) ≡ count (second_fold (fold x))
  held : T (fits binary64 (second_fold (fold x)))

module _ (x : Float) (h : Averted x) (plain : sgn (reduce x) ≡ false) where
  r_mag : Mag (P + 354200) 51 (reduce x)
  r_mag = phase.size x h.thick

  r_abs : abs (reduce x) ≡ reduce x
  r_abs = abs_same (reduce x) r_mag.fine plain

  above : T (lt half_pi (reduce x))
  above = subst (λ (y : Float). T (lt half_pi y)) r_abs h.rest

  r_held : Held (reduce x)
  r_held = record { fine = r_mag.fine; held = reduce_fits x }

  -- up to π: π - r
  near : T (not (lt pi (reduce x))) → Left x
  unfolding fold wrap second_fold
  near t =
      let ri : In P 52 P 51 (reduce x) = nlt_most pi_in (lt_in half_pi_in r_mag above) t in
      let f : fold x ≡ reduce x = ap wrap (first_is x h.thick) ∙ cond_no (lt pi (reduce x)) _ _ t ∙ cond_no (lt (reduce x) minus_pi) _ _ (never_below minus_pi_is pi_in (in_mag ri) tt) in
      let s : second_fold (fold x) ≡ pi ⊖ reduce x = ap second_fold f ∙ cond_yes (lt half_pi (reduce x)) _ _ above in
      let a : abs (fold x) ≡ reduce x = ap abs f ∙ r_abs in
      let v = sub_value 1021 (lit≤ tt) pi_in.sign ri.sign pi_held r_held (lt_of_lt_of_le (small (count pi) (count (reduce x)) U (pow_pos 1074) (count_most P 51 pi_held pi_in.most) (count_least P 51 pi_held pi_in.least) (count_most P 51 r_held ri.most) (count_least P 52 r_held ri.least)) (lit≤ tt)) in
      record {
        beyond = subst (λ (y : Float). T (lt half_pi y)) (sym a) above;
        off = subst (λ (y : Float). nat_abs (value y -ℤ (value pi -ℤ value (reduce x))) ≤ 2 ^ 1022 + 2 ^ 1000) (sym s) (le_trans v (lit≤ tt));
        size = ap (λ (y : Float). count (pi ⊖ y)) a ∙ sym (ap count s);
        held = subst (λ (y : Float). T (fits binary64 y)) (sym s) (sub-fits binary64 pi (reduce x));
      }
    where
      small : (c r u : ℕ) → 0 < u → c * 2 ^ 51 ≤ P * u → P * u ≤ c * 2 ^ 51 → r * 2 ^ 51 ≤ P * u → P * u ≤ r * 2 ^ 52 → gap c r < 2 * u * 1
      small c r u p a b d e = omega (arith, p, a, b, d, e)

  -- beyond π: r - 2π first, which is below -π/2, then -π less that
  far : T (lt pi (reduce x)) → Left x
  unfolding fold wrap second_fold
  far t =
      let ri : In P 51 (P + 354200) 51 (reduce x) = lt_in pi_in r_mag t in
      let rm = count_most (P + 354200) 51 r_held ri.most in
      let rl = count_least P 51 r_held ri.least in
      let tm = count_most M 47 tau_held tau_in.most in
      let tl = count_least M 47 tau_held tau_in.least in
      let F = reduce x ⊖ tau in
      let below : gap (count (reduce x)) (count tau) < 2 ^ (53 + suc 1022) * 1 = lt_of_lt_of_le (small (count (reduce x)) (count tau) U (pow_pos 1074) rl rm tm tl) (lit≤ tt) in
      let z : Result (gap (count (reduce x)) (count tau)) 1 1022 F = sub_off 1022 (lit≤ tt) ri.sign tau_in.sign r_held tau_held below in
      let s_f : sgn F ≡ true = sub_turned ri.sign tau_in.sign r_held tau_held (less (count (reduce x)) (count tau) U (pow_pos 1074) rm tl) in
      let F_mag : Mag P 51 F = sub_gap ri tau_in tt in
      let m = abs F in
      let mc : count m ≡ count F = abs_count F F_mag.fine in
      let ma = abs_in F_mag in
      let mh : Held m = record { fine = plus_finite m ma.sign; held = abs_fits F z.ok.held } in
      let three : 3 * U ≤ count m = le_trans (least (count (reduce x)) (count tau) (count F) U (2 ^ 1022) rm tl z.off.least (lit≤ tt)) (le_of_eq (sym mc)) in
      let mi : In 3 0 P 51 m = record { sign = ma.sign; least = from_count m mh three; most = ma.most } in
      let up : T (lt half_pi m) = surely_below mi half_pi_in tt in
      let n : F ≡ neg m = abs_turned F F_mag.fine s_f in
      let f : fold x ≡ F = ap wrap (first_is x h.thick) ∙ cond_yes (lt pi (reduce x)) F _ t in
      let down : T (lt F minus_half_pi) = subst (λ (y : Float). T (lt F y)) (sym minus_half_pi_is) (subst (λ (y : Float). T (lt y (neg half_pi))) (sym n) (subst (λ (b : Bool). T b) (sym (lt_neg m half_pi)) up)) in
      let s : second_fold (fold x) ≡ neg pi ⊖ neg m =
      ap second_fold f ∙ cond_no (lt half_pi F) _ _ (not_T (lt half_pi F) (λ b. clash (sgn F) s_f (plus_sgn F (lt_in half_pi_in F_mag b).sign))) ∙ cond_yes (lt F minus_half_pi) _ _ down ∙ ap₂ ◌⊖◌ minus_pi_is n in
      let A = pi ⊖ m in
      let A_fine : T (finite A) = (sub_gap {r = P} {n = 52} pi_in mi tt).fine in
      let sv : value (second_fold (fold x)) ≡ neg_ℤ (value A) = ap value s ∙ opposite_value A_fine (sub_neg pi m) in
      let v1 = sub_value 1022 (lit≤ tt) ri.sign tau_in.sign r_held tau_held below in
      let v2 = sub_value 1000 (lit≤ tt) pi_in.sign mi.sign pi_held mh (close (count pi) (count (reduce x)) (count tau) (count m) U (2 ^ 1022) (2 ^ (53 + suc 1000)) (pow_pos 1074) (count_most P 51 pi_held pi_in.most) (count_least P 51 pi_held pi_in.least) rl rm tm tl (subst (λ (c : ℕ). Within (2 ^ 1022 * 1) (c * 1) (gap (count (reduce x)) (count tau))) (sym mc) z.off) (lit≤ tt) (lit≤ tt)) in
      let v_f : value F ≡ neg_ℤ (value m) = ap value n ∙ value_neg m mh.fine in
      record {
        beyond = subst (λ (y : Float). T (lt half_pi (abs y))) (sym f) up;
        off = subst (λ (y : ℤ). nat_abs (y -ℤ (value pi -ℤ value (reduce x))) ≤ 2 ^ 1022 + 2 ^ 1000) (sym sv) (both (value A) (value pi) (value m) (value (reduce x)) v2 (subst (λ (y : ℤ). nat_abs (y -ℤ (value (reduce x) -ℤ (value pi +ℤ value pi))) ≤ 2 ^ 1022) v_f (subst (λ (y : ℤ). nat_abs (value F -ℤ (value (reduce x) -ℤ y)) ≤ 2 ^ 1022) (tau_value ∙ ap₂ ◌+ℤ◌ (sym pi_value) (sym pi_value)) v1)));
        size = ap (λ (y : Float). count (pi ⊖ abs y)) f ∙ sym (size_of (sgn A) (count A)) ∙ sym (size_neg (value A)) ∙ sym (ap nat_abs sv) ∙ size_of (sgn (second_fold (fold x))) (count (second_fold (fold x)));
        held = subst (λ (y : Float). T (fits binary64 y)) (sym s) (sub-fits binary64 (neg pi) (neg m));
      }
    where
      not_T : (b : Bool) → (T b → ⊥) → T (not b)
      not_T true f = f tt
      not_T false f = tt

      clash : (b : Bool) → b ≡ true → b ≡ false → ⊥
      clash true e f = subst (λ (b : Bool). T b) f tt
      clash false e f = subst (λ (b : Bool). T b) (sym e) tt

      small : (r c u : ℕ) → 0 < u → P * u ≤ r * 2 ^ 51 → r * 2 ^ 51 ≤ (P + 354200) * u → c * 2 ^ 47 ≤ M * u → M * u ≤ c * 2 ^ 47 → gap r c < 4 * u * 1
      small r c u p a b d e = omega (arith, p, a, b, d, e)

      both : (a p m r : ℤ) → nat_abs (a -ℤ (p -ℤ m)) ≤ 2 ^ 1000 → nat_abs (neg_ℤ m -ℤ (r -ℤ (p +ℤ p))) ≤ 2 ^ 1022 → nat_abs (neg_ℤ a -ℤ (p -ℤ r)) ≤ 2 ^ 1022 + 2 ^ 1000
      both a p m r h g =
          let c = a -ℤ (p -ℤ m) in
          let d = neg_ℤ m -ℤ (r -ℤ (p +ℤ p)) in
          le_trans
          (le_of_eq
          (ap nat_abs (identity (opp (var 0) :+ opp (var 1 :+ opp (var 3))) (opp ((var 0 :+ opp (var 1 :+ opp (var 2))) :+ (opp (var 2) :+ opp (var 3 :+ opp (var 1 :+ var 1))))) tt (a ∷ p ∷ m ∷ r ∷ [])) ∙ size_neg (c +ℤ d)))
          (le_trans (add_size c d) (sum (nat_abs c) (nat_abs d) (2 ^ 1000) (2 ^ 1022) h g))
        where
          sum : (c d e f : ℕ) → c ≤ e → d ≤ f → c + d ≤ f + e
          sum c d e f h g = omega (arith, h, g)

  -- ---- beside π less the exact angle
  folded : Left x
  folded = by (lt pi (reduce x)) refl
    where
      by : (b : Bool) → lt pi (reduce x) ≡ b → Left x
      by true e = far (subst (λ (b : Bool). T b) (sym e) tt)
      by false e = near (subst (λ (b : Bool). T (not b)) (sym e) tt)

  module _ (G Q : ℕ) (t : TwoPi G Q) where
    abbrev s : Float
    s = second_fold (fold x)

    abbrev X : ℕ
    X = nat_abs (across x G Q)

    abbrev W : ℕ
    W = 2 * (Q * 2 ^ 1074)

    W_pos : 0 < W
    W_pos = mul-pos (lit≤ {m = 1} {n = 2} tt) (mul-pos t.base (pow_pos 1074))

    total : nat_abs (value s *ℤ pos (2 * Q) -ℤ across x G Q) ≤ crossed * (2 * Q)
    total =
        subst (λ (b : Bool). nat_abs (value s *ℤ pos (2 * Q) -ℤ (signed b (G * 2 ^ 1074) -ℤ pos 2 *ℤ left x G Q)) ≤ crossed * (2 * Q)) (sym plain)
        (go (value s) (value pi) (value (reduce x)) (left x G Q) (pos (G * 2 ^ 1074)) folded.off (pi_off G Q t) (turned_off x h.thick G Q t))
      where
        plus3 : {x d e f a b c : ℕ} → x ≤ d + e → d ≤ a → e ≤ b → f ≤ c → x + f ≤ a + b + c
        plus3 h i j k = omega (arith, h, i, j, k)

        enough : (a b c d Q : ℕ) → 2 * a + b + 2 * c ≤ 2 * d → a * (2 * Q) + b * Q + 2 * (c * Q) ≤ d * (2 * Q)
        enough a b c d Q h = let i : (2 * a + b + 2 * c) * Q ≤ 2 * d * Q = mul-le-mul_right Q h in omega (arith, i)

        go : (v p r l g : ℤ) → nat_abs (v -ℤ (p -ℤ r)) ≤ 2 ^ 1022 + 2 ^ 1000 → nat_abs (p *ℤ pos (2 * Q) -ℤ g) ≤ 9 * 2 ^ 1019 * Q → nat_abs (r *ℤ pos Q -ℤ l) ≤ turned * Q → nat_abs (v *ℤ pos (2 * Q) -ℤ (g -ℤ pos 2 *ℤ l)) ≤ crossed * (2 * Q)
        go v p r l g a b c =
            let d = (v -ℤ (p -ℤ r)) *ℤ pos (2 * Q) in
            let e = p *ℤ pos (2 * Q) -ℤ g in
            let f = neg_ℤ (pos 2 *ℤ (r *ℤ pos Q -ℤ l)) in
            let i : nat_abs d ≤ (2 ^ 1022 + 2 ^ 1000) * (2 * Q) = le_trans (le_of_eq (mul_size (v -ℤ (p -ℤ r)) (pos (2 * Q)))) (mul-le-mul_right (2 * Q) a) in
            let j : nat_abs f ≤ 2 * (turned * Q) = le_trans (le_of_eq (size_neg (pos 2 *ℤ (r *ℤ pos Q -ℤ l)) ∙ mul_size (pos 2) (r *ℤ pos Q -ℤ l))) (mul-le-mul_left 2 c) in
            le_trans
            (le_of_eq
            (ap nat_abs
            (identity (var 0 :* (con (pos 2) :* var 5) :+ opp (var 4 :+ opp (con (pos 2) :* var 3)))
            ((var 0 :+ opp (var 1 :+ opp (var 2))) :* (con (pos 2) :* var 5) :+ (var 1 :* (con (pos 2) :* var 5) :+ opp (var 4)) :+ opp (con (pos 2) :* (var 2 :* var 5 :+ opp (var 3)))) tt (v ∷ p ∷ r ∷ l ∷ g ∷ pos Q ∷ []))))
            (le_trans (add_size (d +ℤ e) f) (le_trans (plus3 (add_size d e) i b j) (enough (2 ^ 1022 + 2 ^ 1000) (9 * 2 ^ 1019) turned crossed Q (lit≤ tt))))

    off : Within (crossed * W) (count s * W) (X * U)
    off = scaled crossed (count s) X Q U (known refl (mul_size (value s) (pos (2 * Q)) ∙ ap (λ (c : ℕ). c * (2 * Q)) (size_of (sgn s) (count s))) refl (sizes (crossed * (2 * Q)) (value s *ℤ pos (2 * Q)) (across x G Q) total))
      where
        scaled : (e c n Q u : ℕ) → Within (e * (2 * Q)) (c * (2 * Q)) n → Within (e * (2 * (Q * u))) (c * (2 * (Q * u))) (n * u)
        scaled e c n Q u w = known (one e Q u) (one c Q u) refl (times u w)
          where
            one : (e Q u : ℕ) → e * (2 * Q) * u ≡ e * (2 * (Q * u))
            one e Q u = omega arith

    x_fine : T (finite x)
    x_fine = thick_finite x h.thick

    b_sin : Beside crossed crossed² X W s
    b_sin = crossing X W s folded.held (second_fold_mag (fold x) (fold_mag x x_fine)) W_pos off

    b_cos : Beside crossed crossed² X W (pi ⊖ abs (fold x))
    b_cos =
        crossing X W (pi ⊖ abs (fold x)) (sub-fits binary64 pi (abs (fold x))) (sub_gap pi_in (lt_in half_pi_in (in_mag (abs_in (fold_mag x x_fine))) folded.beyond) tt) W_pos
        (subst (λ (c : ℕ). Within (crossed * W) (c * W) (X * U)) (sym folded.size) off)

    cos_plain : CosineAt 17 (across x G Q) W (neg (cos x))
    cos_plain = cosine_at (neg (cos x)) (pi ⊖ abs (fold x)) is crossed crossed² X W b_cos 17 (lit≤ tt) (across x G Q) refl
      where
        is : neg (cos x) ≡ cos_at (pi ⊖ abs (fold x))
        is = unfold cos cos_of in ap neg (cond_yes (lt half_pi (abs (fold x))) _ _ folded.beyond) ∙ neg_neg (cos_at (pi ⊖ abs (fold x)))

    s_signs : (sgn s ≡ minus (across x G Q)) ⊎ (count s * W + X * U ≤ crossed * W)
    s_signs = go (signs (sgn s) (count s * (2 * Q)) (across x G Q) (crossed * (2 * Q)) (subst (λ (z : ℤ). nat_abs (z -ℤ across x G Q) ≤ crossed * (2 * Q)) (signed_mul (sgn s) false (count s) (2 * Q) ∙ ap (λ (b : Bool). signed b (count s * (2 * Q))) (like (sgn s))) total))
      where
        like : (s : Bool) → unlike s false ≡ s
        like true = refl
        like false = refl

        wide : (c Q n e v : ℕ) → c * (2 * Q) + n ≤ e * (2 * Q) → c * (2 * (Q * v)) + n * v ≤ e * (2 * (Q * v))
        wide c Q n e v h = let i : (c * (2 * Q) + n) * v ≤ e * (2 * Q) * v = mul-le-mul_right v h in omega (arith, i)

        go : (sgn s ≡ minus (across x G Q)) ⊎ (count s * (2 * Q) + X ≤ crossed * (2 * Q)) → (sgn s ≡ minus (across x G Q)) ⊎ (count s * W + X * U ≤ crossed * W)
        go (inl e) = inl e
        go (inr l) = inr (wide (count s) Q X crossed U l)

    sin_plain : SineAt 20 (across x G Q) W (sin x)
    sin_plain = sine_at x s (unfold sin in refl) crossed crossed² X W b_sin 20 (lit≤ tt) (lit≤ tt) (lit≤ tt) (minus (across x G Q)) s_signs (across x G Q) (sym (whole (across x G Q)))

-- ---- a rest below zero, by the opposite angle
signed_neg : (s : Bool) (n : ℕ) → signed (not s) n ≡ neg_ℤ (signed s n)
signed_neg false n = refl
signed_neg true n = sym (neg_ℤ-neg_ℤ (pos n))

turns_opposite : (x : Float) → T (finite x) → turns (neg x) ≡ neg_ℤ (turns x)
turns_opposite x f = ap₂ signed (sgn_neg x f) (ap nearest_size (div_neg x tau) ∙ turns_neg (x ⊘ tau)) ∙ signed_neg (sgn x) (nearest_size (x ⊘ tau))

left_opposite : (x : Float) → T (finite x) → (G Q : ℕ) → left (neg x) G Q ≡ neg_ℤ (left x G Q)
left_opposite x f G Q =
    ap₂ (λ (v k : ℤ). v *ℤ pos Q -ℤ k *ℤ pos (G * 2 ^ 1074)) (value_neg x f) (turns_opposite x f)
    ∙ identity (opp (var 0) :* var 2 :+ opp (opp (var 1) :* var 3)) (opp (var 0 :* var 2 :+ opp (var 1 :* var 3))) tt (value x ∷ turns x ∷ pos Q ∷ pos (G * 2 ^ 1074) ∷ [])

sine_opposite : (parts : ℕ) (Z : ℤ) (W : ℕ) (y z : Float) → value y ≡ neg_ℤ (value z) → SineAt parts Z W z → SineAt parts (neg_ℤ Z) W y
sine_opposite parts Z W y z e h N n =
    let B = sine_bottom W N in
    let t = top sine_steps (nat_abs Z * nat_abs Z) (W * W) N in
    subst (λ (k : ℕ). nat_abs (value y *ℤ pos B -ℤ neg_ℤ Z *ℤ top sine_steps (k * k) (W * W) N *ℤ pos (2 ^ 1074)) ≤ parts * 2 ^ 1021 * B) (sym (size_neg Z))
    (subst (λ (v : ℤ). nat_abs (v *ℤ pos B -ℤ neg_ℤ Z *ℤ t *ℤ pos (2 ^ 1074)) ≤ parts * 2 ^ 1021 * B) (sym e)
    (le_trans
    (le_of_eq
    (ap nat_abs (identity (opp (var 0) :* var 1 :+ opp (opp (var 2) :* var 3 :* var 4)) (opp (var 0 :* var 1 :+ opp (var 2 :* var 3 :* var 4))) tt (value z ∷ pos B ∷ Z ∷ t ∷ pos (2 ^ 1074) ∷ []))
    ∙ size_neg (value z *ℤ pos B -ℤ Z *ℤ t *ℤ pos (2 ^ 1074))))
    (h N n)))

cosine_opposite : (parts : ℕ) (Z : ℤ) (W : ℕ) (y : Float) → CosineAt parts Z W y → CosineAt parts (neg_ℤ Z) W y
cosine_opposite parts Z W y h N n = subst (λ (k : ℕ). OffBy parts (top cosine_steps (k * k) (W * W) N) (bottom cosine_steps (W * W) N) y) (sym (size_neg Z)) (h N n)

module _ (x : Float) (h : Averted x) (Turned-down : sgn (reduce x) ≡ true) where
  fine : T (finite x)
  fine = thick_finite x h.thick

  odd : Opposite (reduce x) (reduce (neg x))
  odd = reduce_odd x (limit_mag x h.thick.most)

  other : Averted (neg x)
  other = record { thick = neg_thick x h.thick; rest = subst (λ (y : Float). T (lt half_pi y)) (sym (opposite_abs odd)) h.rest }

  other_plain : sgn (reduce (neg x)) ≡ false
  other_plain = go odd
    where
      zero_sgn : sgn zero_f ≡ false
      zero_sgn = unfold of_bits in refl

      go : Opposite (reduce x) (reduce (neg x)) → sgn (reduce (neg x)) ≡ false
      go (inl e) = ap sgn e ∙ sgn_neg (reduce x) (phase.size x h.thick).fine ∙ ap not Turned-down
      go (inr e) = ap sgn e.1 ∙ zero_sgn

  module _ (G Q : ℕ) (t : TwoPi G Q) where
    across_is : across x G Q ≡ neg_ℤ (across (neg x) G Q)
    across_is =
        ap (λ (b : Bool). signed b (G * 2 ^ 1074) -ℤ pos 2 *ℤ left x G Q) Turned-down
        ∙ identity (opp (var 0) :+ opp (con (pos 2) :* var 1)) (opp (var 0 :+ opp (con (pos 2) :* opp (var 1)))) tt (pos (G * 2 ^ 1074) ∷ left x G Q ∷ [])
        ∙ ap₂ (λ (b : Bool) (l : ℤ). neg_ℤ (signed b (G * 2 ^ 1074) -ℤ pos 2 *ℤ l)) (sym other_plain) (sym (left_opposite x fine G Q))

    cos_turned : CosineAt 17 (across x G Q) (2 * (Q * 2 ^ 1074)) (neg (cos x))
    cos_turned =
        subst (λ (z : ℤ). CosineAt 17 z (2 * (Q * 2 ^ 1074)) (neg (cos x))) (sym across_is)
        (subst (λ (y : Float). CosineAt 17 (neg_ℤ (across (neg x) G Q)) (2 * (Q * 2 ^ 1074)) (neg y)) (cos_even x)
        (cosine_opposite 17 (across (neg x) G Q) (2 * (Q * 2 ^ 1074)) (neg (cos (neg x))) (cos_plain (neg x) other other_plain G Q t)))

    sin_turned : SineAt 20 (across x G Q) (2 * (Q * 2 ^ 1074)) (sin x)
    sin_turned =
        subst (λ (z : ℤ). SineAt 20 z (2 * (Q * 2 ^ 1074)) (sin x)) (sym across_is)
        (sine_opposite 20 (across (neg x) G Q) (2 * (Q * 2 ^ 1074)) (sin x) (sin (neg x)) (sym (neg_ℤ-neg_ℤ (value (sin x))) ∙ ap neg_ℤ (sym (opposite_value (sin_mag x fine).fine (sin_odd x)))) (sin_plain (neg x) other other_plain G Q t))

-- ---- both
pub cos_averted : (x : Float) → Averted x → (G Q : ℕ) → TwoPi G Q → CosineAt 17 (across x G Q) (2 * (Q * 2 ^ 1074)) (neg (cos x))
cos_averted x h G Q t = by (sgn (reduce x)) refl
  where
    by : (b : Bool) → sgn (reduce x) ≡ b → CosineAt 17 (across x G Q) (2 * (Q * 2 ^ 1074)) (neg (cos x))
    by true e = cos_turned x h e G Q t
    by false e = cos_plain x h e G Q t

pub sin_averted : (x : Float) → Averted x → (G Q : ℕ) → TwoPi G Q → SineAt 20 (across x G Q) (2 * (Q * 2 ^ 1074)) (sin x)
sin_averted x h G Q t = by (sgn (reduce x)) refl
  where
    by : (b : Bool) → sgn (reduce x) ≡ b → SineAt 20 (across x G Q) (2 * (Q * 2 ^ 1074)) (sin x)
    by true e = sin_turned x h e G Q t
    by false e = sin_plain x h e G Q t

pub sides : (x : Float) → Thick x → Facing x ⊎ Averted x
sides x h = by (lt half_pi (abs (reduce x))) refl
  where
    by : (b : Bool) → lt half_pi (abs (reduce x)) ≡ b → Facing x ⊎ Averted x
    by true e = inr (record { thick = h; rest = subst (λ (b : Bool). T b) (sym e) tt })
    by false e = inl (record { thick = h; rest = up_to_half (reduce x) (nlt_most half_pi_in (abs_in (phase.size x h)) (subst (λ (b : Bool). T (not b)) (sym e) tt)) })
