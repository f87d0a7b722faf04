-- R head-on is off by 2 ^ -50 of the exact fraction at most. Assumes nothing.
use mathlib.Core.Path.{refl, sym, ap, subst}
use Prim.Native.Nat.{ℕ, ◌-◌, ◌*◌, ◌^◌}
use native.Mathlib.Nat.{add_comm}
use lib.Dec.{lit≤}
use lib.Ieee.{Float}
use Rattle.ieee.specs.Operators.{◌⊕◌, ◌⊖◌}
use Rattle.ieee.specs.Count.{count}
use Rattle.ieee_near.specs.Index.{Index, difference², sum², OffBy}
use Rattle.ieee_near.proofs.Gap.{gap_comm}
use Rattle.ieee_near.proofs.Pair.{counted, off_by}
use Rattle.fresnel.specs.declared.Reflectances.{Reflectances}
use Rattle.fresnel.specs.Fresnel.{power}
use Rattle.fresnel_near.specs.Claim.{HeadOn, Both, EveryPair}
use Rattle.fresnel_near.proofs.HeadOn.{power_near, head_on}

-- seven roundings are less than 8 parts in 2 ^ 53
head : (x y : Float) → Index x → Index y → HeadOn x y (power (x ⊖ y) (x ⊕ y))
head x y i j =
    let p = power_near x y i j in
    record { sign = p.sign; near = off_by {k = 7} (2 ^ 53 - 8) 8 (power (x ⊖ y) (x ⊕ y)) refl (lit≤ tt) (lit≤ tt) (counted p.held p.near) }

turned : (x y r : Float) → HeadOn x y r → HeadOn y x r
turned x y r h = record {
  sign = h.sign;
  near = subst (λ (s : ℕ). OffBy 8 (difference² y x) s r) (ap (λ (n : ℕ). n * n) (add_comm (count x) (count y))) (subst (λ (g : ℕ). OffBy 8 (g * g) (sum² x y) r) (gap_comm (count x) (count y)) h.near);
}

pub every_pair : EveryPair
every_pair n1 n2 i j = subst (λ (r : Reflectances). Both n1 n2 r) (sym (head_on n1 n2 i j)) (record { s = head n1 n2 i j; p = turned n2 n1 (power (n2 ⊖ n1) (n2 ⊕ n1)) (head n2 n1 j i) })
