-- The two laws hold. Assumes nothing.
use mathlib.Core.Path.{sym, subst}
use Prim.Native.Nat.{ℕ, zero, suc, ◌<◌}
use native.Mathlib.Nat.{not-suc-le-zero, le_of_suc-le-suc}
use lib.Dec.{lit<}
use lib.Ieee.{Float, binary64, fits, of_bits}
use lib.Ieee.Fits.{add-fits, sub-fits}
use Rattle.ieee.specs.Operators.{◌⊕◌, ◌⊖◌, ◌⊗◌}
use Rattle.ieee.specs.Functions.{zero_f, one}
use Rattle.ieee.proofs.Range.Constants.{zero_mag}
use Rattle.thin_film_complex.specs.declared.Complex.{Complex}
use Rattle.thin_film_complex.specs.Complex as C
use Rattle.thin_film_matrix.specs.Matrix.{dot}
use Rattle.polarization_mueller.specs.declared.JonesMatrix.{JonesMatrix}
use Rattle.polarization_mueller.specs.Jones.{entry, identity, diattenuator, mul}
use Rattle.polarization_value.specs.Value.{FiniteParts, SameComplex, SameJones}
use Rattle.polarization_order.specs.Order.{FiniteEntries, ZeroParts, Diagonal, OrderClaim}
use Rattle.polarization_value.proofs.Commute.{complex_product_comm, complex_sum_comm}
use Rattle.polarization_value.proofs.Keeps.{Zero, zero_from, zero_sum, zero_difference, zero_times, one_times, Keeps, keeps_sum, keeps_difference, keeps_more, same_zeros, keeps_same, both_same}

-- ---- complex numbers: zeros, and what is kept of one
record Zeros (z : Complex) : Type 0 where
  re : Zero z.re
  im : Zero z.im

record Kept (z r : Complex) : Type 0 where
  re : Keeps z.re r.re
  im : Keeps z.im r.im

of_parts : {z : Complex} → ZeroParts z → Zeros z
of_parts {z} h = record { re = zero_from z.re h.re; im = zero_from z.im h.im }

no_parts : Zeros C.zero
no_parts = record { re = zero_mag; im = zero_mag }

zeros_times : {z w : Complex} → Zeros z → FiniteParts w → Zeros (C.mul z w)
unfolding C.mul
zeros_times h f = record {
  re = zero_difference (zero_times h.re f.re) (zero_times h.im f.im);
  im = zero_sum (zero_times h.re f.im) (zero_times h.im f.re);
}

times_zeros : {z w : Complex} → FiniteParts z → Zeros w → Zeros (C.mul z w)
times_zeros {z} {w} f h = subst Zeros (complex_product_comm w z) (zeros_times h f)

zeros_sum : {z w : Complex} → Zeros z → Zeros w → Zeros (C.add z w)
unfolding C.add
zeros_sum h g = record { re = zero_sum h.re g.re; im = zero_sum h.im g.im }

same_complex_zeros : {z w : Complex} → Zeros z → Zeros w → SameComplex z w
same_complex_zeros h g = record { re = same_zeros h.re g.re; im = same_zeros h.im g.im }

-- a product and zeros
product_kept : (z w : Complex) {n : Complex} → Zeros n → Kept (C.mul z w) (C.add (C.mul z w) n)
unfolding C.mul C.add
product_kept z w h = record { re = keeps_sum _ _ (sub-fits binary64 (z.re ⊗ w.re) (z.im ⊗ w.im)) h.re; im = keeps_sum _ _ (add-fits binary64 (z.re ⊗ w.im) (z.im ⊗ w.re)) h.im }

kept_same : {z r : Complex} → Kept z r → SameComplex r z
kept_same h = record { re = keeps_same h.re; im = keeps_same h.im }

kept_both : {z r t : Complex} → Kept z r → Kept z t → SameComplex r t
kept_both h g = record { re = both_same h.re g.re; im = both_same h.im g.im }

-- ---- the order of two plates: a product on the diagonal and zeros beside it
four : (P : ℕ → Type 0) → P 0 → P 1 → P 2 → P 3 → (i : ℕ) → i < 4 → P i
four P a b c d zero l = a
four P a b c d (suc zero) l = b
four P a b c d (suc (suc zero)) l = c
four P a b c d (suc (suc (suc zero))) l = d
four P a b c d (suc (suc (suc (suc i)))) l = absurd (not-suc-le-zero (le_of_suc-le-suc (le_of_suc-le-suc (le_of_suc-le-suc (le_of_suc-le-suc l)))))

-- z w + n and w z + m
plus_zeros : (z w : Complex) {n m : Complex} → Zeros n → Zeros m → SameComplex (C.add (C.mul z w) n) (C.add (C.mul w z) m)
plus_zeros z w {n} {m} h g = kept_both (product_kept z w h) (subst (λ (t : Complex). Kept (C.mul z w) (C.add t m)) (complex_product_comm z w) (product_kept z w g))

module _ (a b : JonesMatrix) (da : Diagonal a) (db : Diagonal b) (fa : FiniteEntries a) (fb : FiniteEntries b) where
  a1 : Zeros (entry a 1)
  a1 = of_parts da.m01

  a2 : Zeros (entry a 2)
  a2 = of_parts da.m10

  b1 : Zeros (entry b 1)
  b1 = of_parts db.m01

  b2 : Zeros (entry b 2)
  b2 = of_parts db.m10

  either_order : SameJones (mul a b) (mul b a)
  unfolding mul dot
  either_order = four (λ (i : ℕ). SameComplex (entry (mul a b) i) (entry (mul b a) i))
      (plus_zeros (entry a 0) (entry b 0) (zeros_times a1 (fb 2 (lit< tt))) (zeros_times b1 (fa 2 (lit< tt))))
      (same_complex_zeros (zeros_sum (times_zeros (fa 0 (lit< tt)) b1) (zeros_times a1 (fb 3 (lit< tt)))) (zeros_sum (times_zeros (fb 0 (lit< tt)) a1) (zeros_times b1 (fa 3 (lit< tt)))))
      (same_complex_zeros (zeros_sum (zeros_times a2 (fb 0 (lit< tt))) (times_zeros (fa 3 (lit< tt)) b2)) (zeros_sum (zeros_times b2 (fa 0 (lit< tt))) (times_zeros (fb 3 (lit< tt)) a2)))
      (flipped (zeros_times a2 (fb 1 (lit< tt))) (zeros_times b2 (fa 1 (lit< tt))))
    where
      flipped : {n m : Complex} → Zeros n → Zeros m → SameComplex (C.add n (C.mul (entry a 3) (entry b 3))) (C.add m (C.mul (entry b 3) (entry a 3)))
      flipped {n} {m} h g =
          subst (λ (t : Complex). SameComplex t (C.add m (C.mul (entry b 3) (entry a 3)))) (complex_sum_comm (C.mul (entry a 3) (entry b 3)) n)
          (subst (λ (t : Complex). SameComplex (C.add (C.mul (entry a 3) (entry b 3)) n) t) (complex_sum_comm (C.mul (entry b 3) (entry a 3)) m)
          (plus_zeros (entry a 3) (entry b 3) h g))

-- ---- the Rust's diattenuators
no_finite : FiniteParts C.zero
unfolding of_bits fits
no_finite = record { re = record { fine = tt; held = tt }; im = record { fine = tt; held = tt } }

module _ (tx ty : Complex) where
  of_diattenuator : Diagonal (diattenuator tx ty)
  unfolding diattenuator of_bits
  of_diattenuator = record { m01 = record { re = tt; im = tt }; m10 = record { re = tt; im = tt } }

  entries_finite : FiniteParts tx → FiniteParts ty → FiniteEntries (diattenuator tx ty)
  unfolding diattenuator
  entries_finite f g = four (λ (i : ℕ). FiniteParts (entry (diattenuator tx ty) i)) f no_finite no_finite g

diattenuators : (tx ty ux uy : Complex) → FiniteParts tx → FiniteParts ty → FiniteParts ux → FiniteParts uy → SameJones (mul (diattenuator tx ty) (diattenuator ux uy)) (mul (diattenuator ux uy) (diattenuator tx ty))
diattenuators tx ty ux uy a b c d = either_order (diattenuator tx ty) (diattenuator ux uy) (of_diattenuator tx ty) (of_diattenuator ux uy) (entries_finite tx ty a b) (entries_finite ux uy c d)

-- ---- the identity
unit_times : {z : Complex} → FiniteParts z → Kept z (C.mul (C.real one) z)
unfolding C.mul C.real
unit_times {z} f = record {
  re = subst (λ (x : Float). Keeps z.re (x ⊖ zero_f ⊗ z.im)) (sym (one_times z.re f.re)) (keeps_difference f.re.held (zero_times zero_mag f.im));
  im = subst (λ (x : Float). Keeps z.im (x ⊕ zero_f ⊗ z.re)) (sym (one_times z.im f.im)) (keeps_sum z.im _ f.im.held (zero_times zero_mag f.re));
}

kept_more : {z r w : Complex} → Kept z r → FiniteParts z → Zeros w → Kept z (C.add r w)
unfolding C.add
kept_more h f g = record { re = keeps_more h.re f.re.held g.re; im = keeps_more h.im f.im.held g.im }

-- 1 z + w and w + 1 z, z 1 + w and w + z 1
module _ {z w : Complex} (f : FiniteParts z) (g : Zeros w) where
  unit_first : SameComplex (C.add (C.mul (C.real one) z) w) z
  unit_first = kept_same (kept_more (unit_times f) f g)

  unit_last : SameComplex (C.add w (C.mul (C.real one) z)) z
  unit_last = subst (λ (t : Complex). SameComplex t z) (complex_sum_comm (C.mul (C.real one) z) w) unit_first

  first_unit : SameComplex (C.add (C.mul z (C.real one)) w) z
  first_unit = subst (λ (t : Complex). SameComplex (C.add t w) z) (complex_product_comm (C.real one) z) unit_first

  last_unit : SameComplex (C.add w (C.mul z (C.real one))) z
  last_unit = subst (λ (t : Complex). SameComplex (C.add w t) z) (complex_product_comm (C.real one) z) unit_last

module _ (j : JonesMatrix) (f : FiniteEntries j) where
  f0 : FiniteParts (entry j 0)
  f0 = f 0 (lit< tt)

  f1 : FiniteParts (entry j 1)
  f1 = f 1 (lit< tt)

  f2 : FiniteParts (entry j 2)
  f2 = f 2 (lit< tt)

  f3 : FiniteParts (entry j 3)
  f3 = f 3 (lit< tt)

  identity_left : SameJones (mul identity j) j
  unfolding mul dot identity
  identity_left = four (λ (i : ℕ). SameComplex (entry (mul identity j) i) (entry j i))
      (unit_first f0 (zeros_times no_parts f2)) (unit_first f1 (zeros_times no_parts f3)) (unit_last f2 (zeros_times no_parts f0)) (unit_last f3 (zeros_times no_parts f1))

  identity_right : SameJones (mul j identity) j
  unfolding mul dot identity
  identity_right = four (λ (i : ℕ). SameComplex (entry (mul j identity) i) (entry j i))
      (first_unit f0 (times_zeros f1 no_parts)) (last_unit f1 (times_zeros f0 no_parts)) (first_unit f2 (times_zeros f3 no_parts)) (last_unit f3 (times_zeros f2 no_parts))

pub order_claim : OrderClaim
order_claim = record { either_order = either_order; diattenuators = diattenuators; identity_left = identity_left; identity_right = identity_right }
