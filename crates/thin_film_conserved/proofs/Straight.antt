-- The solver at angle 0, of either sign, without layers: its complex numbers are real up to a zero of either sign, and its admittances are the indices. Assumes nothing.
use mathlib.Core.Path.{◌≡◌, refl, sym, ap, ap₂, ◌∙◌, subst}
use mathlib.Core.Bool.{Bool, true, false}
use lib.Dec.{T}
use lib.Ieee as Ieee
use lib.Ieee.{Float, binary64, fits, of_bits}
use Rattle.ieee.specs.Operators.{◌⊕◌, ◌⊖◌, ◌⊗◌, ◌⊘◌}
use Rattle.ieee.specs.Functions.{zero_f, one, two, abs, max}
use Rattle.ieee.specs.Range.{plus, Mag, In}
use Rattle.ieee.proofs.Range.Laws.{in_mag}
use Rattle.ieee.proofs.Range.Sums.{add_mag, sub_mag}
use Rattle.ieee.proofs.Range.Quotients.{div_mag}
use Rattle.ieee.proofs.Range.Zero.{zero_mul_mag, mul_zero_mag, add_zero_same}
use Rattle.ieee.proofs.Range.Constants.{zero_mag, one_in, one_mag, two_in}
use Rattle.ieee_near.specs.Index.{Index}
use Rattle.ieee_near.proofs.Laws.{a_zero}
use Rattle.ieee_near.proofs.Exact.{mul_one_same, one_mul_same, div_one_same, sub_zero_same, zero_add_same, times_zero, zero_over}
use Rattle.ieee_near.proofs.Pair.{index_in}
use Rattle.math_root.specs.Root.{square_root}
use Rattle.math_trig.specs.Trig.{sin, cos}
use Rattle.math_trig.proofs.AtZero.{cos_zero, sin_zero}
use Rattle.thin_film_complex.specs.declared.Complex.{Complex}
use Rattle.thin_film_complex.specs.Complex.{real, scale, norm_sq, add, sub, mul, quotient, div}
use Rattle.thin_film_matrix.specs.Matrix.{identity}
use Rattle.thin_film_bounds.proofs.Complex.{norm_in, real_in, div_is}
use Rattle.thin_film_solver.specs.Solve.{eta0_s, eta0_p, least_cos, cos_theta_sub, eta_sub_s, eta_sub_p, b_of, c_of}

-- ---- the substrate's cosine
cosine_zero : (s : Bool) → cos_theta_sub (a_zero s) ≡ real one
unfolding cos_theta_sub real abs max square_root Ieee.lt Ieee.le Ieee.eq Ieee.add Ieee.sub Ieee.mul Ieee.neg of_bits
cosine_zero false = refl
cosine_zero true = refl

-- ---- real numbers among the complex ones: the imaginary part is a zero of either sign
pub record Is (x : Float) (z : Complex) : Type 0 where
  pub re : z.re ≡ x
  pub im : Mag 0 0 z.im

one_plus : T (plus one)
unfolding of_bits
one_plus = tt

one_fits : T (fits binary64 one)
unfolding of_bits fits
one_fits = tt

module _ (a b : Float) (ia : Index a) (ib : Index b) (eta0 eta : Complex) (h0 : Is a eta0) (h1 : Is b eta) where
  ha : In 1 0 4 0 a
  ha = index_in ia

  hb : In 1 0 4 0 b
  hb = index_in ib

  re0 : Mag 4 0 eta0.re
  re0 = subst (λ (x : Float). Mag 4 0 x) (sym h0.re) (in_mag ha)

  re1 : Mag 4 0 eta.re
  re1 = subst (λ (x : Float). Mag 4 0 x) (sym h1.re) (in_mag hb)

  is_B : Is one (b_of identity eta)
  unfolding b_of add mul real
  is_B = record {
    re = let z : Mag 0 0 (zero_f ⊗ eta.re ⊖ zero_f ⊗ eta.im) = sub_mag (zero_mul_mag zero_mag re1) (zero_mul_mag zero_mag h1.im) tt in add_zero_same one one_plus one_fits z;
    im = let z : Mag 0 0 (zero_f ⊗ eta.im ⊕ zero_f ⊗ eta.re) = add_mag (zero_mul_mag zero_mag h1.im) (zero_mul_mag zero_mag re1) tt in add_mag zero_mag z tt;
  }

  is_C : Is b (c_of identity eta)
  unfolding c_of add mul real
  is_C = record {
    re =
        ap (λ (x : Float). zero_f ⊕ (one ⊗ x ⊖ zero_f ⊗ eta.im)) h1.re ∙ ap (λ (x : Float). zero_f ⊕ (x ⊖ zero_f ⊗ eta.im)) (one_mul_same b hb.sign ib.held)
        ∙ ap (λ (x : Float). zero_f ⊕ x) (sub_zero_same b hb.sign ib.held (zero_mul_mag zero_mag h1.im)) ∙ zero_add_same b hb.sign ib.held zero_mag;
    im = let z : Mag 0 0 (one ⊗ eta.im ⊕ zero_f ⊗ eta.re) = add_mag (mul_zero_mag one_mag h1.im) (zero_mul_mag zero_mag re1) tt in add_mag zero_mag z tt;
  }

  B_mag : Mag 1 0 (b_of identity eta).re
  B_mag = subst (λ (x : Float). Mag 1 0 x) (sym is_B.re) one_mag

  is_A : Is a (mul eta0 (b_of identity eta))
  unfolding mul
  is_A = record {
    re =
        ap₂ (λ (x y : Float). x ⊗ y ⊖ eta0.im ⊗ (b_of identity eta).im) h0.re is_B.re ∙ ap (λ (x : Float). x ⊖ eta0.im ⊗ (b_of identity eta).im) (mul_one_same a ha.sign ia.held)
        ∙ sub_zero_same a ha.sign ia.held (zero_mul_mag h0.im is_B.im);
    im = add_mag (mul_zero_mag re0 is_B.im) (zero_mul_mag h0.im B_mag) tt;
  }

  pub is_less : Is (a ⊖ b) (sub (mul eta0 (b_of identity eta)) (c_of identity eta))
  unfolding sub
  is_less = record { re = ap₂ ◌⊖◌ is_A.re is_C.re; im = sub_mag is_A.im is_C.im tt }

  pub is_sum : Is (a ⊕ b) (add (mul eta0 (b_of identity eta)) (c_of identity eta))
  unfolding add
  is_sum = record { re = ap₂ ◌⊕◌ is_A.re is_C.re; im = add_mag is_A.im is_C.im tt }

  pub is_twice : Is (a ⊗ two) (scale eta0 two)
  unfolding scale
  is_twice = record { re = ap (λ (x : Float). x ⊗ two) h0.re; im = zero_mul_mag h0.im (in_mag two_in) }

-- ---- the admittances
module _ (n0 ns : Float) (i0 : Index n0) (i1 : Index ns) (s : Bool) where
  h0 : In 1 0 4 0 n0
  h0 = index_in i0

  h1 : In 1 0 4 0 ns
  h1 = index_in i1

  pub is_eta0_s : Is n0 (eta0_s n0 (cos (a_zero s)))
  unfolding eta0_s real
  is_eta0_s = record { re = ap (λ (x : Float). n0 ⊗ x) (cos_zero s) ∙ mul_one_same n0 h0.sign i0.held; im = zero_mag }

  pub is_eta0_p : Is n0 (eta0_p n0 (cos (a_zero s)))
  unfolding eta0_p real
  is_eta0_p = record { re = ap (λ (x : Float). n0 ⊘ max x least_cos) (cos_zero s) ∙ ap (λ (x : Float). n0 ⊘ x) kept ∙ div_one_same n0 h0.sign i0.held; im = zero_mag }
    where
      kept : max one least_cos ≡ one
      kept = unfold max Ieee.lt of_bits in refl

  straight : cos_theta_sub ((n0 ⊗ sin (a_zero s)) ⊘ ns) ≡ real one
  straight = ap (λ (x : Float). cos_theta_sub ((n0 ⊗ x) ⊘ ns)) (sin_zero s) ∙ ap (λ (x : Float). cos_theta_sub (x ⊘ ns)) (times_zero n0 s h0.sign) ∙ ap cos_theta_sub (zero_over ns s h1) ∙ cosine_zero s

  pub is_sub_s : Is ns (eta_sub_s (n0 ⊗ sin (a_zero s)) ns)
  unfolding eta_sub_s
  is_sub_s = subst (λ (z : Complex). Is ns (mul (real ns) z)) (sym straight) at
    where
      at : Is ns (mul (real ns) (real one))
      at = unfold mul real in record {
        re = ap (λ (x : Float). x ⊖ zero_f ⊗ zero_f) (mul_one_same ns h1.sign i1.held) ∙ sub_zero_same ns h1.sign i1.held (zero_mul_mag zero_mag zero_mag);
        im = add_mag (mul_zero_mag (in_mag h1) zero_mag) (zero_mul_mag zero_mag one_mag) tt;
      }

  pub is_sub_p : Is ns (eta_sub_p (n0 ⊗ sin (a_zero s)) ns)
  unfolding eta_sub_p
  is_sub_p =
      let q : In 1 0 1 0 (norm_sq (real one)) = norm_in (real_in one_in) tt in
      subst (λ (z : Complex). Is ns (div (real ns) z)) (sym straight) (subst (λ (z : Complex). Is ns z) (sym (div_is (real ns) (real one) q tt ∙ ap (quotient (real ns) (real one)) norm_one)) at)
    where
      norm_one : norm_sq (real one) ≡ one
      norm_one = unfold norm_sq real Ieee.mul Ieee.add of_bits in refl

      at : Is ns (quotient (real ns) (real one) one)
      at = unfold quotient real in record {
        re = ap (λ (x : Float). (x ⊕ zero_f ⊗ zero_f) ⊘ one) (mul_one_same ns h1.sign i1.held) ∙ ap (λ (x : Float). x ⊘ one) (add_zero_same ns h1.sign i1.held (zero_mul_mag zero_mag zero_mag)) ∙ div_one_same ns h1.sign i1.held;
        im = let n : Mag 0 0 (zero_f ⊗ one ⊖ ns ⊗ zero_f) = sub_mag (zero_mul_mag zero_mag one_mag) (mul_zero_mag (in_mag h1) zero_mag) tt in div_mag n one_in tt;
      }
