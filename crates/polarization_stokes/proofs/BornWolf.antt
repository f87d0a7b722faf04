-- The Stokes parameters in parts are Born and Wolf's written out, in every arithmetic with the rules of the minus sign. Whole numbers have them, and so has f64 with all its rounding. Assumes nothing.
use mathlib.Core.Path.{◌≡◌, refl, sym, ap, ◌∙◌}
use Prim.Native.Nat.{zero, suc, ◌*◌}
use mathlib.Core.Bool.{Bool, true, false, not, cond}
use lib.Dec.{eqb}
use lib.IntN.{ℤ, pos, negsuc, neg_ℤ, ◌+ℤ◌, ◌*ℤ◌, neg_ℤ-neg_ℤ, *ℤ-zero, *ℤ-negsuc, *ℤ_comm}
use lib.Ieee.{Float, nan, inf, fin, binary64, unlike, up, down, round, neg, mul}
use Rattle.ieee.specs.Operators.{◌⊗◌}
use Rattle.ieee.proofs.Range.Laws.{sub_is}
use Rattle.math_trig.proofs.Opposites.{mul_neg, round_neg, sub_opposite}
use Rattle.polarization_stokes.specs.BornWolf.{Arithmetic, Number, BornAndWolf, in_parts, exact, rounded}
use Rattle.polarization_stokes.specs.Jones.{number, to_stokes}
use Rattle.polarization_stokes.specs.Claim.{StokesClaim}

-- ---- the rules of the minus sign
record Signs {A : Type 0} (K : Arithmetic A) : Type 0 where
  minus_opposite : (x y : A) → K.minus x (K.opposite y) ≡ K.plus x y
  plus_opposite : (x y : A) → K.plus x (K.opposite y) ≡ K.minus x y
  times_left : (x y : A) → K.times (K.opposite x) y ≡ K.opposite (K.times x y)
  times_right : (x y : A) → K.times x (K.opposite y) ≡ K.opposite (K.times x y)

written_out : {A : Type 0} (K : Arithmetic A) → Signs K → (ex ey : Number A) → BornAndWolf K ex ey (in_parts K ex ey).s0 (in_parts K ex ey).s1 (in_parts K ex ey).s2 (in_parts K ex ey).s3
written_out K rules ex ey = record {
  S0 = refl;
  S1 = refl;
  S2 = simp (rules.times_right, rules.minus_opposite);
  S3 = simp (rules.times_left, rules.plus_opposite);
}

-- ---- whole numbers
opposite_right : (x y : ℤ) → x *ℤ neg_ℤ y ≡ neg_ℤ (x *ℤ y)
opposite_right x (pos zero) = *ℤ-zero x ∙ sym (ap neg_ℤ (*ℤ-zero x))
opposite_right x (pos (suc n)) = *ℤ-negsuc x n
opposite_right x (negsuc n) = sym (ap neg_ℤ (*ℤ-negsuc x n) ∙ neg_ℤ-neg_ℤ (x *ℤ pos (suc n)))

exact_signs : Signs exact
exact_signs = record {
  minus_opposite = λ x y. ap (λ (z : ℤ). x +ℤ z) (neg_ℤ-neg_ℤ y);
  plus_opposite = λ x y. refl;
  times_left = λ x y. *ℤ_comm (neg_ℤ x) y ∙ opposite_right y x ∙ ap neg_ℤ (*ℤ_comm y x);
  times_right = opposite_right;
}

-- ---- f64
unlike_not : (s t : Bool) → unlike s (not t) ≡ not (unlike s t)
unlike_not true true = refl
unlike_not true false = refl
unlike_not false true = refl
unlike_not false false = refl

no_product : (b s t : Bool) → cond b nan (inf (unlike s (not t))) ≡ neg (cond b nan (inf (unlike s t)))
unfolding neg
no_product true s t = refl
no_product false s t = ap inf (unlike_not s t)

mul_neg_right : (x y : Float) → x ⊗ neg y ≡ neg (x ⊗ y)
unfolding mul neg
mul_neg_right nan y = refl
mul_neg_right (inf s) nan = refl
mul_neg_right (inf s) (inf t) = ap inf (unlike_not s t)
mul_neg_right (inf s) (fin t n d) = no_product (eqb n 0) s t
mul_neg_right (fin s m e) nan = refl
mul_neg_right (fin s m e) (inf t) = no_product (eqb m 0) s t
mul_neg_right (fin s m e) (fin t n d) =
    ap (λ (b : Bool). round binary64 b (m * up e * (n * up d)) (down e * down d)) (unlike_not s t) ∙ sym (round_neg binary64 (unlike s t) (m * up e * (n * up d)) (down e * down d))

rounded_signs : Signs rounded
rounded_signs = record {
  minus_opposite = sub_opposite;
  plus_opposite = λ x y. sym (sub_is x y);
  times_left = mul_neg;
  times_right = mul_neg_right;
}

pub stokes_are_born_and_wolf : StokesClaim
unfolding to_stokes
stokes_are_born_and_wolf = record { bit_for_bit = λ v. written_out rounded rounded_signs (number v.ex) (number v.ey); exactly = written_out exact exact_signs }
