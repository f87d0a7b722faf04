-- Powers from 0 to 1 that are multiplied by powers from 0 to 1 fall, and so does their sum. Assumes nothing.
use mathlib.Core.Path.{◌≡◌, refl, subst}
use Prim.Native.Nat.{ℕ, ◌*◌, ◌≤◌}
use native.Mathlib.Nat.{le_refl}
use native.Mathlib.Omega.{arith}
use lib.Dec.{T}
use lib.Ieee.{Float, binary64, add, le, fits, of_bits}
use lib.Ieee.Scale.{finite}
use lib.Ieee.Positive.{num, den}
use lib.Ieee.Fits.{and_l, and_i, mul-fits}
use lib.Ieee.Bits.{of_bits-fits}
use Rattle.ieee.specs.Operators.{◌⊗◌, ◌⊕◌}
use Rattle.ieee.specs.Functions.{zero_f, one}
use Rattle.ieee.specs.Range.{Mag}
use Rattle.ieee.proofs.Range.Constants.{zero_mag, zero_foot}
use Rattle.ieee.proofs.Range.Sums.{add_mag}
use Rattle.ieee.proofs.Range.Falls.{FromZeroToOne, zero_to_one, in_zero_to_one, to_tests, product_unit, least0_le, sum_le}
use Rattle.gate_limits.specs.Limits.{within, power_passes}
use Rattle.surface.proofs.Finite.{product_falls, sum_falls}
use Rattle.train_steps.specs.declared.Chosen.{Chosen}
use Rattle.train_steps.specs.declared.State.{State}
use Rattle.train_steps.specs.Train.{with_wavelength}
use Rattle.train_claim.specs.Claim.{Falls}

-- ---- a state whose powers are f64 from 0 to 1
pub record Unit-powers (st : State) : Type 0 where
  pub s_held : T (fits binary64 st.s)
  pub p_held : T (fits binary64 st.p)
  pub s : T (power_passes st.s)
  pub p : T (power_passes st.p)

between : (x : Float) → T (power_passes x) → FromZeroToOne x
unfolding within
between x t = zero_to_one x t

passes : (x : Float) → FromZeroToOne x → T (power_passes x)
unfolding within
passes x h = to_tests h

from_zero : (x : Float) → T (power_passes x) → T (le zero_f x)
unfolding within
from_zero x t = and_l (le zero_f x) (le x one) t

same : (x : Float) → T (power_passes x) → T (le x x)
same x t = let h = between x t in least0_le x x h.mag.fine h.mag.fine h.least h.least (le_refl (num x * den x))

-- ---- sums
zero_sum : zero_f ⊕ zero_f ≡ zero_f
unfolding of_bits add
zero_sum = refl

sum_from_zero : (x y : Float) → T (power_passes x) → T (power_passes y) → T (le zero_f (x ⊕ y))
sum_from_zero x y t u = subst (λ (z : Float). T (le z (x ⊕ y))) zero_sum (sum_le zero zero (between x t) (between y u) (least x) (least y))
  where
    zero : FromZeroToOne zero_f
    zero = in_zero_to_one zero_foot

    least : (z : Float) → num zero_f * den z ≤ num z * den zero_f
    least z = let e : num zero_f ≡ 0 = omega (arith, zero_mag.most) in rw e (omega arith)

pub sum_finite : (x y : Float) → T (power_passes x) → T (power_passes y) → T (finite (x ⊕ y))
sum_finite x y t u = let s : Mag 2 0 (x ⊕ y) = add_mag (between x t).mag (between y u).mag tt in s.fine

pub power_finite : (x : Float) → T (power_passes x) → T (finite x)
power_finite x t = (between x t).mag.fine

-- ---- a step that is refused, and one that is taken
pub stays : (st : State) (w : Float) → Unit-powers st → Falls st (with_wavelength w st)
stays st w h = record {
  s = and_i (le zero_f st.s) (le st.s st.s) (from_zero st.s h.s) (same st.s h.s);
  p = and_i (le zero_f st.p) (le st.p st.p) (from_zero st.p h.p) (same st.p h.p);
  sum = and_i (le zero_f (st.s ⊕ st.p)) (le (st.s ⊕ st.p) (st.s ⊕ st.p)) (sum_from_zero st.s st.p h.s h.p) (sum_le (between st.s h.s) (between st.p h.p) (between st.s h.s) (between st.p h.p) (le_refl _) (le_refl _));
}

module _ (st : State) (h : Unit-powers st) (done : ℕ) (w : Float) (c : Chosen) (cs : T (power_passes c.s)) (cp : T (power_passes c.p)) where
  abbrev next : State
  next = record { done = done; s = st.s ⊗ c.s; p = st.p ⊗ c.p; wavelength_nm = w }

  unit_s : T (power_passes (st.s ⊗ c.s))
  unit_s = passes _ (product_unit (between st.s h.s) (between c.s cs))

  unit_p : T (power_passes (st.p ⊗ c.p))
  unit_p = passes _ (product_unit (between st.p h.p) (between c.p cp))

  pub taken : Falls st next
  taken = record {
    s = product_falls st.s c.s h.s_held h.s cs;
    p = product_falls st.p c.p h.p_held h.p cp;
    sum = and_i (le zero_f (next.s ⊕ next.p)) (le (next.s ⊕ next.p) (st.s ⊕ st.p)) (sum_from_zero next.s next.p unit_s unit_p) (sum_falls st.s c.s st.p c.p h.s_held h.p_held h.s cs h.p cp);
  }

  pub unit : Unit-powers next
  unit = record { s_held = mul-fits binary64 st.s c.s; p_held = mul-fits binary64 st.p c.p; s = unit_s; p = unit_p }

pub begun : (done a b : ℕ) (w : Float) → T (power_passes (of_bits binary64 a)) → T (power_passes (of_bits binary64 b)) → Unit-powers (record { done = done; s = of_bits binary64 a; p = of_bits binary64 b; wavelength_nm = w })
begun done a b w t u = record { s_held = of_bits-fits binary64 a; p_held = of_bits-fits binary64 b; s = t; p = u }
