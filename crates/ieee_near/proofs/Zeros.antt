-- A zero added, and a clamp to 0..1, leave a value as near as it was. Assumes nothing.
use mathlib.Core.Path.{sym, ap, ◌∙◌, subst}
use Prim.Native.Nat.{ℕ, ◌+◌, ◌-◌, ◌*◌, ◌^◌, ◌≤◌, ◌<◌, zero-le}
use native.Mathlib.Nat.{le_trans, le_of_eq, zero-mul, mul-one, one-mul, mul_comm, mul_assoc, mul_left_comm, mul-le-mul, mul-le-mul_left, mul-le-mul_right, mul-pos, add-zero, sub-zero, le_of_mul-le-mul_right, pow-le-pow_left}
use native.Mathlib.Omega.{arith}
use mathlib.Core.Bool.{Bool, true, false, not, ◌&&◌, beq, cond}
use lib.Dec.{T, ltb, ltb→lt, lit≤}
use lib.Pow.{pow_pos}
use lib.Ieee.{Float, binary64, round, sum, lt, fits, of_bits}
use lib.Ieee.Fits.{cond-fits}
use lib.Ieee.Scale.{finite, round_same}
use lib.Ieee.Exact.{HasValue, round_exact}
use lib.Ieee.Positive.{num, den, den_pos}
use Rattle.ieee.specs.Operators.{◌⊕◌, ◌⊖◌}
use Rattle.ieee.specs.Functions.{zero_f, one, clamp}
use Rattle.ieee.specs.Range.{sgn, plus, Mag, In}
use Rattle.ieee.proofs.Range.Round.{value_cross, value_finite}
use Rattle.ieee.proofs.Range.Values.{whole}
use Rattle.ieee.proofs.Range.Zero.{zero_num}
use Rattle.ieee.proofs.Range.Constants.{zero_in, zero_foot, one_in}
use Rattle.ieee.proofs.Range.Tests.{choose, lt_in, never_under, clamp_in}
use Rattle.ieee.proofs.Range.Laws.{add_is, sub_is, neg_mag}
use Rattle.ieee_near.specs.Near.{E, W, some, Near}
use Rattle.ieee_near.proofs.Laws.{near_same}

-- ---- ±a / c plus a zero is a / c rounded, with one sign or the other
sum_zero : (P : Float → Type 0) (s : Bool) (a : ℕ) (t : Bool) (c : ℕ) → ((s : Bool) → P (round binary64 s a c)) → P (sum binary64 s a t 0 c)
unfolding sum
sum_zero P s a t c f = go (beq s t) (ltb a 0) (λ u. never a (ltb→lt a 0 u))
  where
    never : (a : ℕ) → a < 0 → ⊥
    never a h = omega arith

    go : (u v : Bool) → (T v → ⊥) → P (cond u (round binary64 s (a + 0) c) (cond v (round binary64 t (0 - a) c) (round binary64 (s && ltb 0 a) (a - 0) c)))
    go true v g = subst (λ (n : ℕ). P (round binary64 s n c)) (sym (add-zero a)) (f s)
    go false true g = absurd (g tt)
    go false false g = subst (λ (n : ℕ). P (round binary64 (s && ltb 0 a) n c)) (sym (sub-zero a)) (f (s && ltb 0 a))

-- what an f64 holds has that size with either sign
own_size : (s : Bool) (x : Float) → T (finite x) → T (fits binary64 x) → HasValue (round binary64 s (num x) (den x)) s (num x) (den x)
own_size s x f h = let w = whole binary64 x f h in round_exact binary64 s (num x) (den x) w.m w.j (den_pos x) w.few w.under w.is

pub near_add_zero : {k l p A B : ℕ} {x z : Float} → Near k l p A B x → T (fits binary64 x) → Mag 0 0 z → Near k l p A B (x ⊕ z)
near_add_zero {k} {l} {p} {A} {B} {x} {z} h t g =
    subst (λ (r : Float). Near k l p A B r) (sym (add_is x z h.fine g.fine ∙ ap (λ (n : ℕ). sum binary64 (sgn x) (num x * den z) (sgn z) n (den x * den z)) (ap (λ (n : ℕ). n * den x) (zero_num g) ∙ zero-mul (den x))))
    (sum_zero (λ (r : Float). Near k l p A B r) (sgn x) (num x * den z) (sgn z) (den x * den z) at)
  where
    at : (s : Bool) → Near k l p A B (round binary64 s (num x * den z) (den x * den z))
    at s =
        let r = round binary64 s (num x) (den x) in
        let v = own_size s x h.fine t in
        subst (λ (y : Float). Near k l p A B y)
        (round_same binary64 s (num x) (den x) (num x * den z) (den x * den z) (den_pos x) (mul-pos (den_pos x) (den_pos z)) (simp (mul_assoc, mul_comm, mul_left_comm)))
        (near_same r (value_finite r s (num x) (den x) v) (sym (value_cross r s (num x) (den x) v)) h)

pub near_sub_zero : {k l p A B : ℕ} {x z : Float} → Near k l p A B x → T (fits binary64 x) → Mag 0 0 z → Near k l p A B (x ⊖ z)
near_sub_zero {k} {l} {p} {A} {B} {x} {z} h t g = subst (λ (r : Float). Near k l p A B r) (sym (sub_is x z)) (near_add_zero h t (neg_mag g))

-- ---- with the sign clear
near_in : {k l p A B : ℕ} {x : Float} → Near k l p A B x → T (plus x) → In 0 0 (2 ^ p) 0 x
near_in {p = p} {x = x} h px = record { sign = px; least = le_trans (le_of_eq (zero-mul (den x))) zero-le; most = le_trans (le_of_eq (mul-one (num x))) h.high }

pub clamp_plus : {k l p A B : ℕ} {x : Float} → Near k l p A B x → T (plus x) → T (plus (clamp x zero_f one))
clamp_plus {x = x} h px = let c : In 0 0 1 0 (clamp x zero_f one) = clamp_in one_in zero_foot (near_in h px) tt in c.sign

pub clamp_fits : (x : Float) → T (fits binary64 x) → T (fits binary64 (clamp x zero_f one))
unfolding clamp
clamp_fits x h = cond-fits binary64 (lt x zero_f) zero_f (cond (lt one x) one x) (unfold fits of_bits in tt) (cond-fits binary64 (lt one x) one x (unfold fits of_bits in tt) h)

-- ---- clamped to 0..1, where the exact fraction is at most 1
pub near_clamp : {k l p A B : ℕ} {x : Float} → Near k l p A B x → T (plus x) → A ≤ B → Near k l p A B (clamp x zero_f one)
unfolding clamp
near_clamp {k} {l} {p} {A} {B} {x} h px le =
    choose (λ (r : Float). Near k l p A B r) (lt x zero_f) zero_f (cond (lt one x) one x) (λ t. absurd (not_below t))
    (λ t. choose (λ (r : Float). Near k l p A B r) (lt one x) one x above (λ u. h))
  where
    not_below : T (lt x zero_f) → ⊥
    not_below t = clash (lt x zero_f) t (never_under (near_in h px) zero_in tt)
      where
        clash : (b : Bool) → T b → T (not b) → ⊥
        clash true t u = u
        clash false t u = t

    -- the exact fraction is at most 1, and the value before is more: 1 lies between
    above : T (lt one x) → Near k l p A B one
    above t =
        let g : In 1 0 (2 ^ p) 0 x = lt_in one_in (record { fine = h.fine; most = le_trans (le_of_eq (mul-one (num x))) h.high }) t in
        unfold of_bits in record {
          fine = tt;
          low = some (le_trans (pow_pos l) (le_of_eq (sym (one-mul (2 ^ l)))));
          high = le_trans (pow_pos p) (le_of_eq (sym (mul-one (2 ^ p))));
          close = record {
            least = mul-le-mul (pow-le-pow_left (lit≤ {m = W} {n = E} tt) k) (le_trans (le_of_eq (mul-one A)) (le_trans le (le_of_eq (sym (one-mul B)))));
            most = least_one (W ^ k) (E ^ k) A B (num x) (den x) (den_pos x) (le_trans (le_of_eq (sym (one-mul (den x)))) (le_trans g.least (le_of_eq (mul-one (num x))))) h.close.most;
          };
        }
      where
        least_one : (w e A B n d : ℕ) → 0 < d → d ≤ n → w * (n * B) ≤ e * (A * d) → w * (1 * B) ≤ e * (A * 1)
        least_one w e A B n d D h g =
            le_of_mul-le-mul_right
            (le_trans (le_of_eq (ap (λ (z : ℕ). w * z * d) (one-mul B) ∙ mul_assoc w B d ∙ ap (λ (z : ℕ). w * z) (mul_comm B d)))
            (le_trans (mul-le-mul_left w (mul-le-mul_right B h)) (le_trans g (le_of_eq (sym (ap (λ (z : ℕ). e * z * d) (mul-one A) ∙ mul_assoc e A d)))))) D
