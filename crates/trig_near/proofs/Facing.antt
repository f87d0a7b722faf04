-- An angle whose cosine is 0.25 at least is left between -π/2 and π/2 by the first line, and nothing is folded. Assumes nothing.
use mathlib.Core.Path.{◌≡◌, refl, sym, ap, ◌∙◌, subst}
use mathlib.Core.Logic.{inl, inr}
use mathlib.Core.Bool.{Bool, true, false, not}
use Prim.Native.Nat.{ℕ, ◌+◌, ◌*◌, ◌^◌, ◌≤◌, ◌<◌}
use native.Mathlib.Nat.{lt_of_lt_of_le, le_trans, le_of_eq, mul_right_comm, mul-le-mul_right, le_of_mul-le-mul_right}
use native.Mathlib.Omega.{arith}
use lib.Dec.{T, lit≤}
use lib.Pow.{pow_pos}
use lib.Ieee.{Float, nan, inf, fin, binary64, fits, neg, lt, le, of_bits}
use lib.Ieee.Bits.{cond_no}
use lib.Ieee.Fits.{sub-fits}
use lib.Ieee.Positive.{num, den, positive}
use lib.Ieee.Scale.{finite}
use Rattle.ieee.specs.Operators.{◌⊖◌}
use Rattle.ieee.specs.Functions.{zero_f, one, quarter, abs}
use Rattle.ieee.specs.Range.{sgn, plus, In, Mag}
use Rattle.ieee.specs.Count.{count}
use Rattle.ieee.proofs.Range.Laws.{in_lit, in_mag, abs_in, plus_finite}
use Rattle.ieee.proofs.Range.Sums.{sub_gap}
use Rattle.ieee.proofs.Range.Constants.{one_in}
use Rattle.ieee.proofs.Range.Falls.{Least0, least0_le}
use Rattle.ieee.proofs.Range.AbsProduct.{abs_parts}
use Rattle.ieee.proofs.Range.Tests.{lt_in, nlt_most, never_above, never_below, clamp_same, gate_least}
use Rattle.near_abs.proofs.Counts.{U, Held, count_most, Result, sub_off}
use Rattle.ieee_near.specs.Index.{gap}
use Rattle.math_trig.specs.Angles.{tau, pi, minus_pi, half_pi, turns_limit}
use Rattle.math_trig.specs.Trig.{wrap, first_line, reduce, fold, cos_at, cos_of, cos}
use Rattle.math_trig.proofs.TrigBounds.{pi_in, fold_mag, cos_mag}
use Rattle.math_trig.proofs.Constants.{minus_one_is, minus_pi_is}
use Rattle.math_trig.proofs.Opposites.{neg_neg, lt_neg}
use Rattle.math_trig.proofs.Turned.{reduce_odd}
use Rattle.math_trig.proofs.Turns.{M, tau_in, limit_mag}
use Rattle.math_trig.specs.Opposite.{Opposite}
use Rattle.math_trig.proofs.Parity.{cos_even}
use Rattle.math_phase.specs.Claim.{Thick}
use Rattle.math_phase.proofs.Claim.{phase}
use Rattle.trig_near.specs.Claim.{Facing}
use Rattle.trig_near.proofs.Angle.{P, exactly}
use Rattle.trig_near.proofs.Cosine.{raw, raw_mag, raw_small}
use Rattle.trig_near.proofs.Turned.{half_pi_in, cond_yes, reduce_fits}

quarter_in : In 1 2 1 2 quarter
unfolding of_bits
quarter_in = in_lit quarter tt

quarter_positive : T (positive quarter)
unfolding of_bits
quarter_positive = tt

-- what is at least 1/4 and the opposite of y: y has its sign and is 1/4 in size
opposite : (y : Float) → In 1 2 1 0 (neg y) → (sgn y ≡ true) × (1 * den y ≤ num y * 2 ^ 2)
unfolding neg
opposite nan h = absurd h.sign
opposite (inf s) h = absurd h.sign
opposite (fin true m e) h = (refl, h.least)
opposite (fin false m e) h = absurd h.sign

-- ---- the second half of cos: its answers are less than 1/4
turned_small : (a : Float) → In 0 0 P 51 a → T (lt half_pi a) → In 1 2 1 0 (neg (cos_at (pi ⊖ a))) → ⊥
turned_small a ai t h =
    let m : Mag P 52 (pi ⊖ a) = sub_gap pi_in (lt_in half_pi_in (in_mag ai) t) tt in
    let b = exactly (pi ⊖ a) (sub-fits binary64 pi a) m in
    let r = raw 0 (2 ^ 1022) (count (pi ⊖ a)) U (pi ⊖ a) b in
    let rm = raw_mag 0 (2 ^ 1022) (count (pi ⊖ a)) U (pi ⊖ a) b in
    let e : cos_at (pi ⊖ a) ≡ r = unfold cos_at raw in clamp_same r _ one (never_below minus_one_is one_in rm tt) (never_above one_in rm tt) in
    let o = opposite r (subst (λ (z : Float). In 1 2 1 0 (neg z)) e h) in
    raw_small 0 (2 ^ 1022) (count (pi ⊖ a)) U (pi ⊖ a) b o.0 o.1

not_T : (b : Bool) → (T b → ⊥) → T (not b)
not_T true f = f tt
not_T false f = tt

module _ (x : Float) (f : T (finite x)) (q : T (le quarter (cos x))) where
  cos_in : In 1 2 1 0 (cos x)
  cos_in = gate_least quarter (cos x) quarter_in (cos_mag x f) quarter_positive q

  near_zero : T (not (lt half_pi (abs (fold x))))
  unfolding cos cos_of
  near_zero = not_T (lt half_pi (abs (fold x))) (λ t. turned_small (abs (fold x)) (abs_in (fold_mag x f)) t (subst (λ (z : Float). In 1 2 1 0 z) (is t) cos_in))
    where
      is : T (lt half_pi (abs (fold x))) → cos x ≡ neg (cos_at (pi ⊖ abs (fold x)))
      is t = cond_yes (lt half_pi (abs (fold x))) _ _ t

  fold_in : In 0 0 P 52 (abs (fold x))
  fold_in = nlt_most half_pi_in (abs_in (fold_mag x f)) near_zero

pub thick_finite : (x : Float) → Thick x → T (finite x)
thick_finite x h = (limit_mag x h.most).fine

pub first_is : (x : Float) → Thick x → first_line x ≡ reduce x
unfolding first_line
first_is x h = cond_yes (le (abs x) turns_limit) (reduce x) _ h.most

-- ---- a rest above π would be folded to the far side
-- in counts: π to π + 354,200 / 2 ^ 51, less 2π
far : (r c z u e : ℕ) → 0 < u → r * 2 ^ 51 ≤ (P + 354200) * u → P * u ≤ c * 2 ^ 50 → gap r c ≤ z * 1 + e * 1 → e * 2 ^ 51 ≤ u → z * 2 ^ 52 ≤ P * u → ⊥
far r c z u e p a b g h l = omega (arith, p, a, b, g, h, l)

pub tau_held : Held tau
unfolding fits of_bits
tau_held = record { fine = tt; held = tt }

pub tau_least : P * U ≤ count tau * 2 ^ 50
unfolding count of_bits
tau_least = lit≤ tt

no_higher : (x : Float) → Thick x → T (le quarter (cos x)) → T (not (lt pi (reduce x)))
unfolding wrap fold
no_higher x h q = not_T (lt pi (reduce x)) no
  where
    r : Float
    r = reduce x

    no : T (lt pi r) → ⊥
    no t =
        let ri : In P 51 (P + 354200) 51 r = lt_in pi_in (phase.size x h) t in
        let hr : Held r = record { fine = plus_finite r ri.sign; held = reduce_fits x } in
        let rm = count_most (P + 354200) 51 hr ri.most in
        let e : fold x ≡ r ⊖ tau = ap wrap (first_is x h) ∙ cond_yes (lt pi r) (r ⊖ tau) _ t in
        let a = abs_parts (fold x) (fold_mag x (thick_finite x h)).fine in
        let m : Mag P 52 (fold x) = record { fine = (fold_mag x (thick_finite x h)).fine; most = subst (λ (n : ℕ). n * 2 ^ 52 ≤ P * den (fold x)) a.2 (subst (λ (d : ℕ). num (abs (fold x)) * 2 ^ 52 ≤ P * d) a.3 (fold_in x (thick_finite x h) q).most) } in
        let z : Result (gap (count r) (count tau)) 1 1023 (r ⊖ tau) = sub_off 1023 (lit≤ tt) ri.sign tau_in.sign hr tau_held (lt_of_lt_of_le (small (count r) (count tau) U (pow_pos 1074) rm (count_most M 47 tau_held tau_in.most)) (lit≤ tt)) in
        far (count r) (count tau) (count (r ⊖ tau)) U (2 ^ 1023) (pow_pos 1074) rm tau_least z.off.least (lit≤ tt) (count_most P 52 z.ok (subst (λ (y : Float). num y * 2 ^ 52 ≤ P * den y) e m.most))
      where
        small : (r c u : ℕ) → 0 < u → r * 2 ^ 51 ≤ (P + 354200) * u → c * 2 ^ 47 ≤ M * u → gap r c < 8 * u
        small r c u p a b = omega (arith, p, a, b)

-- ---- and one below -π, of the opposite angle
pub neg_thick : (x : Float) → Thick x → Thick (neg x)
unfolding neg abs fits
neg_thick nan h = h
neg_thick (inf s) h = record { held = h.held; most = h.most }
neg_thick (fin s m e) h = record { held = h.held; most = h.most }

zeros : lt pi zero_f ≡ lt zero_f minus_pi
unfolding lt of_bits
zeros = refl

no_lower : (x : Float) → Thick x → T (le quarter (cos x)) → T (not (lt (reduce x) minus_pi))
no_lower x h q =
    subst (λ (b : Bool). T (not b)) (go (reduce_odd x (limit_mag x h.most))) (no_higher (neg x) (neg_thick x h) (subst (λ (c : Float). T (le quarter c)) (sym (cos_even x)) q))
  where
    go : Opposite (reduce x) (reduce (neg x)) → lt pi (reduce (neg x)) ≡ lt (reduce x) minus_pi
    go (inl e) = ap (lt pi) e ∙ ap (λ (y : Float). lt y (neg (reduce x))) (sym (neg_neg pi)) ∙ lt_neg (neg pi) (reduce x) ∙ ap (lt (reduce x)) (sym minus_pi_is)
    go (inr e) = ap (lt pi) e.1 ∙ zeros ∙ ap (λ (y : Float). lt y minus_pi) (sym e.0)

least : (x : Float) → T (plus x) → Least0 x
least nan p = absurd p
least (inf s) p = absurd p
least (fin true m e) p = absurd p
least (fin false m e) p = λ t. absurd t

-- a size up to π/2, as a test
pub up_to_half : (r : Float) → In 0 0 P 52 (abs r) → T (le (abs r) half_pi)
up_to_half r i =
    least0_le (abs r) half_pi (plus_finite (abs r) i.sign) (plus_finite half_pi half_pi_in.sign) (least (abs r) i.sign) (least half_pi half_pi_in.sign)
    (cross (num (abs r)) (den (abs r)) (num half_pi) (den half_pi) (2 ^ 52) P (pow_pos 52) i.most half_pi_in.least)
  where
    cross : (n d m f S p : ℕ) → 0 < S → n * S ≤ p * d → p * f ≤ m * S → n * f ≤ m * d
    cross n d m f S p S0 a b =
        le_of_mul-le-mul_right
        (le_trans (le_of_eq (mul_right_comm n f S)) (le_trans (mul-le-mul_right f a) (le_trans (le_of_eq (mul_right_comm p d f)) (le_trans (mul-le-mul_right d b) (le_of_eq (mul_right_comm m S d))))))
        S0

pub faces : (x : Float) → Thick x → T (le quarter (cos x)) → Facing x
unfolding wrap fold
faces x h q =
    let f = thick_finite x h in
    let e : fold x ≡ reduce x = ap wrap (first_is x h) ∙ cond_no (lt pi (reduce x)) _ _ (no_higher x h q) ∙ cond_no (lt (reduce x) minus_pi) _ _ (no_lower x h q) in
    record { thick = h; rest = up_to_half (reduce x) (subst (λ (y : Float). In 0 0 P 52 (abs y)) e (fold_in x f q)) }
