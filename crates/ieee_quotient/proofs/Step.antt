-- 1 less `quick` of x is 1 less x / c, for every x from 0 to 4: what is below 2 ^ -100 takes nothing off 1. Assumes nothing.
use mathlib.Core.Path.{◌≡◌, refl, sym, ap, ◌∙◌}
use Prim.Native.Nat.{ℕ, ◌+◌, ◌*◌, ◌^◌, ◌≤◌, ◌<◌}
use native.Mathlib.Nat.{le_trans, le_of_eq, le_of_lt, one-mul, mul_comm, mul_assoc, mul-le-mul_right, le_of_mul-le-mul_right}
use mathlib.Core.Bool.{Bool, true, false, not}
use lib.Dec.{T, ltb, ltb→lt, nltb→le}
use lib.Pow.{pow-add, pow_pos}
use lib.Ieee.{Float, binary64, fits}
use lib.Ieee.Positive.{num, den}
use Rattle.ieee.specs.Operators.{◌⊕◌, ◌⊖◌, ◌⊗◌, ◌⊘◌}
use Rattle.ieee.specs.Functions.{one}
use Rattle.ieee.specs.Range.{plus, Mag}
use Rattle.ieee.proofs.Range.Laws.{plus_finite, mul_mag}
use Rattle.ieee.proofs.Range.Sums.{add_mag, sub_mag}
use Rattle.ieee.proofs.Range.Quotients.{div_mag}
use Rattle.ieee.proofs.Range.Values.{whole}
use Rattle.ieee_quotient.specs.Quick.{quick}
use Rattle.ieee_quotient.proofs.Units.{has_value}
use Rattle.ieee_quotient.proofs.Laws.{Constants, sum_is}
use Rattle.ieee_quotient.proofs.Small.{one_less}

module _ (e b : ℕ) (v w : Float) {y u c : Float} (C : Constants e b y (y ⊗ v) (y ⊗ w) u c) where
  -- below 2 ^ -100
  tiny : (x : Float) → Mag 1 100 x → one ⊖ quick v w y u x ≡ one ⊖ x ⊘ c
  unfolding quick
  tiny x h =
      let q : Mag 1 100 (x ⊗ y) = mul_mag h C.y_most tt in
      let p : Mag 1 100 (x ⊗ (y ⊗ v)) = mul_mag h C.ya_most tt in
      let s : Mag 1 100 (x ⊗ (y ⊗ w)) = mul_mag h C.yb_most tt in
      let t : Mag 1 99 (x ⊖ x ⊗ (y ⊗ v)) = sub_mag h p tt in
      let r : Mag 1 98 (x ⊖ x ⊗ (y ⊗ v) ⊖ x ⊗ (y ⊗ w)) = sub_mag t s tt in
      let a : Mag 1 98 ((x ⊖ x ⊗ (y ⊗ v) ⊖ x ⊗ (y ⊗ w)) ⊗ u) = mul_mag r C.u_most tt in
      let k : Mag 1 60 (x ⊗ y ⊕ (x ⊖ x ⊗ (y ⊗ v) ⊖ x ⊗ (y ⊗ w)) ⊗ u) = add_mag q a tt in
      let l : Mag 1 60 (x ⊘ c) = div_mag h C.c_in tt in
      one_less k ∙ sym (one_less l)

  small_mag : (x : Float) (N : ℕ) → T (plus x) → num x * 2 ^ 1074 ≡ N * den x → N < 2 ^ 974 → Mag 1 100 x
  small_mag x N h g l = record {
    fine = plus_finite x h;
    most = le_of_mul-le-mul_right
        (le_trans (le_of_eq (mul_assoc (num x) (2 ^ 100) (2 ^ 974) ∙ ap (λ (z : ℕ). num x * z) (sym (pow-add 2 100 974)) ∙ g))
        (le_trans (mul-le-mul_right (den x) (le_of_lt l)) (le_of_eq (mul_comm (2 ^ 974) (den x) ∙ ap (λ (z : ℕ). z * 2 ^ 974) (sym (one-mul (den x)))))))
        (pow_pos 974);
  }

  pub step_is : (x : Float) → T (plus x) → T (fits binary64 x) → one ⊖ quick v w y u x ≡ one ⊖ x ⊘ c
  unfolding quick
  step_is x h f =
      let n = whole binary64 x (plus_finite x h) f in
      go (n.m * 2 ^ n.j) n.m n.j refl n.few n.is n.under (ltb (n.m * 2 ^ n.j) (2 ^ 974)) (ltb→lt (n.m * 2 ^ n.j) (2 ^ 974)) (nltb→le (n.m * 2 ^ n.j) (2 ^ 974))
    where
      go : (N m j : ℕ) → N ≡ m * 2 ^ j → m < 2 ^ 53 → num x * 2 ^ 1074 ≡ N * den x → N < 2 ^ (1074 + 1024) → (t : Bool) → (T t → N < 2 ^ 974) → (T (not t) → 2 ^ 974 ≤ N)
          → one ⊖ quick v w y u x ≡ one ⊖ x ⊘ c
      go N m j s few g under true l r = tiny x (small_mag x N h g (l tt))
      go N m j s few g under false l r = ap (λ (z : Float). one ⊖ z) (sum_is e b C x N m j (has_value x N (2 ^ 1074) h g) s few (r tt) under)
