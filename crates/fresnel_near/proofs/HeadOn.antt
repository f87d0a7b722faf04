-- fresnel_dielectric(1, n1, n2) for indices from 1 to 4: up to seven roundings (n1 - n2)² / (n1 + n2)². Assumes nothing.
use mathlib.Core.Path.{◌≡◌, refl, sym, ap, ap₂, ◌∙◌, subst}
use Prim.Native.Nat.{ℕ, ◌+◌, ◌*◌, ◌≤◌, ◌<◌}
use native.Mathlib.Nat.{mul_comm, mul_assoc, mul_left_comm, mul-le-mul, mul-pos}
use native.Mathlib.Omega.{arith}
use mathlib.Core.Bool.{Bool, true, false, not, cond}
use lib.Dec.{T, lit≤}
use lib.Ieee as Ieee
use lib.Ieee.{Float, nan, inf, fin, binary64, fits, lt, le, of_bits}
use lib.Ieee.Bits.{cond_no}
use lib.Ieee.Fits.{mul-fits}
use lib.Ieee.Positive.{num, den, den_pos}
use Rattle.ieee.specs.Operators.{◌⊕◌, ◌⊖◌, ◌⊗◌, ◌⊘◌}
use Rattle.ieee.specs.Functions.{zero_f, one, abs, max, clamp}
use Rattle.ieee.specs.Range.{plus, In}
use Rattle.ieee.specs.Count.{count}
use Rattle.ieee.proofs.Range.Laws.{in_lit, mul_in}
use Rattle.ieee.proofs.Range.Plus.{sq_plus}
use Rattle.ieee.proofs.Range.Quotients.{div_in}
use Rattle.ieee.proofs.Range.Tests.{never_under}
use Rattle.ieee_near.specs.Index.{Index, gap, difference², sum²}
use Rattle.ieee_near.specs.Near.{Near}
use Rattle.ieee_near.proofs.Laws.{a_zero, near_mul, near_div, near_frac}
use Rattle.ieee_near.proofs.Zeros.{near_clamp, clamp_plus, clamp_fits}
use Rattle.ieee_near.proofs.Exact.{mul_one_same, times_zero}
use Rattle.ieee_near.proofs.Pair.{index_in, D_pos, S_pos, near_total, near_difference, total_in, difference_counts}
use Rattle.math_root.specs.Root.{square_root}
use Rattle.fresnel.specs.declared.Reflectances.{Reflectances}
use Rattle.fresnel.specs.Fresnel.{sin2_t, cos_t, least_den, power, refracted, fresnel_dielectric}

abs_plus : (z : Float) → T (plus z) → abs z ≡ z
unfolding abs
abs_plus nan p = absurd p
abs_plus (inf s) p = absurd p
abs_plus (fin true m e) p = absurd p
abs_plus (fin false m e) p = refl

module _ (x y : Float) (ix : Index x) (iy : Index y) where
  -- ---- the power of (x - y) / (x + y)
  abbrev q : Float
  q = (x ⊖ y) ⊘ (x ⊕ y)

  abbrev S : ℕ
  S = num x * den y + num y * den x

  abbrev G : ℕ
  G = gap (num x * den y) (num y * den x)

  abbrev D : ℕ
  D = den x * den y

  total_pos : 0 < num (x ⊕ y)
  total_pos = positive (num (x ⊕ y)) (den (x ⊕ y)) (den_pos (x ⊕ y)) (total_in x y ix iy).least
    where
      positive : (n d : ℕ) → 0 < d → 2 * d ≤ n * 1 → 0 < n
      positive n d p h = omega arith

  near_q : Near 3 109 3 (G * D) (D * S) q
  near_q = near_div (near_difference x y ix iy) (near_total x y ix iy) total_pos (lit≤ tt) (lit≤ tt)

  near_square : Near 7 218 6 (difference² x y) (sum² x y) (q ⊗ q)
  near_square =
      let DS = mul-pos (D_pos x y ix iy) (S_pos x y ix iy) in
      near_frac (G * D * (G * D)) (D * S * (D * S)) (difference² x y) (sum² x y) (mul-pos DS DS) (cross G D S (count x + count y) (gap (count x) (count y)) (difference_counts x y ix iy)) (near_mul near_q near_q (lit≤ tt) (lit≤ tt))
    where
      cross : (G D S s g : ℕ) → G * G * (s * s) ≡ g * g * (S * S) → G * D * (G * D) * (s * s) ≡ g * g * (D * S * (D * S))
      cross G D S s g e = a G D s ∙ ap (λ (z : ℕ). D * D * z) e ∙ b g D S
        where
          a : (G D s : ℕ) → G * D * (G * D) * (s * s) ≡ D * D * (G * G * (s * s))
          a G D s = simp (mul_assoc, mul_comm, mul_left_comm)

          b : (g D S : ℕ) → D * D * (g * g * (S * S)) ≡ g * g * (D * S * (D * S))
          b g D S = simp (mul_assoc, mul_comm, mul_left_comm)

  pub less : difference² x y ≤ sum² x y
  less = mul-le-mul (under (count x) (count y)) (under (count x) (count y))
    where
      under : (a b : ℕ) → gap a b ≤ a + b
      under a b = omega arith

  -- the divisor is 2 at least
  power_is : power (x ⊖ y) (x ⊕ y) ≡ clamp (q ⊗ q) zero_f one
  unfolding power
  power_is =
      cond_no (lt (abs (x ⊕ y)) least_den) zero_f (clamp (q ⊗ q) zero_f one)
      (subst (λ (z : Float). T (not (lt z least_den))) (sym (abs_plus (x ⊕ y) (total_in x y ix iy).sign)) (never_under (total_in x y ix iy) least_in tt))
    where
      least_in : In 0 0 1 0 least_den
      least_in = unfold of_bits in in_lit least_den tt

  pub record Power (r : Float) : Type 0 where
    pub near : Near 7 218 6 (difference² x y) (sum² x y) r
    pub sign : T (plus r)
    pub held : T (fits binary64 r)

  pub power_near : Power (power (x ⊖ y) (x ⊕ y))
  power_near =
      let p = sq_plus q near_q.fine near_square.fine in
      subst Power (sym power_is) (record { near = near_clamp near_square p less; sign = clamp_plus near_square p; held = clamp_fits (q ⊗ q) (mul-fits binary64 q q) })

-- ---- head-on
nothing_bent : max (one ⊖ one ⊗ one) zero_f ≡ a_zero false
unfolding max Ieee.sub Ieee.mul Ieee.lt of_bits
nothing_bent = refl

straight_on : cos_t (a_zero false) ≡ one
unfolding cos_t square_root max Ieee.sub Ieee.lt of_bits
straight_on = refl

pub head_on : (n1 n2 : Float) → Index n1 → Index n2 → fresnel_dielectric one n1 n2 ≡ record { rs = power (n1 ⊖ n2) (n1 ⊕ n2); rp = power (n2 ⊖ n1) (n2 ⊕ n1) }
unfolding fresnel_dielectric
head_on n1 n2 i j =
    ap (λ (c : Float). dielectric c (sin2_t c n1 n2)) one_same ∙ ap (λ (t : Float). dielectric one t) no_sine ∙ ap (λ (b : Bool). cond b (record { rs = one; rp = one }) (refracted one (cos_t (a_zero false)) n1 n2)) not_total
    ∙ ap (λ (c : Float). refracted one c n1 n2) straight_on ∙ same
  where
    dielectric : Float → Float → Reflectances
    dielectric c t = cond (le one t) (record { rs = one; rp = one }) (refracted c (cos_t t) n1 n2)

    one_same : clamp one zero_f one ≡ one
    one_same = unfold clamp Ieee.lt of_bits in refl

    not_total : le one (a_zero false) ≡ false
    not_total = unfold Ieee.le of_bits in refl

    no_sine : sin2_t one n1 n2 ≡ a_zero false
    no_sine =
        let e : In 1 2 4 0 (n1 ⊘ n2) = div_in (index_in i) (index_in j) tt in
        let f : In 0 0 16 0 ((n1 ⊘ n2) ⊗ (n1 ⊘ n2)) = mul_in e e tt in
        unfold sin2_t in (ap (λ (z : Float). (n1 ⊘ n2) ⊗ (n1 ⊘ n2) ⊗ z) nothing_bent ∙ times_zero ((n1 ⊘ n2) ⊗ (n1 ⊘ n2)) false f.sign)

    same : refracted one one n1 n2 ≡ record { rs = power (n1 ⊖ n2) (n1 ⊕ n2); rp = power (n2 ⊖ n1) (n2 ⊕ n1) }
    same =
        unfold refracted in (ap₂ (λ (a b : Float). record { rs = power (a ⊖ b) (a ⊕ b); rp = power (b ⊖ a) (b ⊕ a) }) (mul_one_same n1 (index_in i).sign i.held) (mul_one_same n2 (index_in j).sign j.held))
