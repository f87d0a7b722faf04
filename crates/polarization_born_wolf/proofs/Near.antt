-- What is another number up to the sign of a zero, through sums, differences and products. Assumes nothing.
use mathlib.Core.Path.{sym, subst}
use mathlib.Core.Logic.{inl, inr}
use Prim.Native.Nat.{ℕ, suc, ◌+◌, ◌≤◌}
use lib.Dec.{T}
use lib.Ieee.{Float, binary64, neg, fits}
use lib.Ieee.Fits.{add-fits, mul-fits, neg-fits}
use Rattle.ieee.specs.Operators.{◌⊕◌, ◌⊖◌, ◌⊗◌}
use Rattle.ieee.specs.Range.{Pow}
use Rattle.ieee.proofs.Range.Laws.{sub_is, neg_mag}
use Rattle.ieee.proofs.Range.Constants.{zero_mag}
use Rattle.ieee.proofs.Range.Zero.{zero_mul_mag}
use Rattle.ieee.proofs.Range.Powers.{of_pow, mul_pow, add_pow, neg_pow}
use Rattle.math_trig.specs.Opposite.{Opposite}
use Rattle.polarization_value.proofs.Commute.{product_comm, sum_comm_f}
use Rattle.polarization_value.proofs.Keeps.{Zero, zero_sum, Keeps, kept, zeros, keeps_sum}

-- ---- two that are kept of one; one after the other; the opposite
keeps_pair : {x r t : Float} → Keeps x r → Keeps x t → Keeps r t
keeps_pair kept k = k
keeps_pair (zeros p q) kept = zeros q p
keeps_pair (zeros p q) (zeros p' q') = zeros q q'

pub keeps_on : {x r t : Float} → Keeps x r → Keeps r t → Keeps x t
keeps_on kept k = k
keeps_on (zeros p q) kept = zeros p q
keeps_on (zeros p q) (zeros p' q') = zeros p q'

pub keeps_neg : {x r : Float} → Keeps x r → Keeps (neg x) (neg r)
keeps_neg kept = kept
keeps_neg (zeros p q) = zeros (neg_mag p) (neg_mag q)

pub keeps_opposite : {x y : Float} → Opposite x y → Keeps (neg x) y
keeps_opposite {x} (inl e) = subst (λ (r : Float). Keeps (neg x) r) (sym e) kept
keeps_opposite (inr e) = zeros (neg_mag (subst Zero (sym e.0) zero_mag)) (subst Zero (sym e.1) zero_mag)

-- ---- an f64 of at most 2 ^ k in size, and what is kept of it
pub record Near (k : ℕ) (x r : Float) : Type 0 where
  pub held : T (fits binary64 x)
  pub size : Pow k x
  pub keeps : Keeps x r

pub itself : {k : ℕ} {x : Float} → T (fits binary64 x) → Pow k x → Near k x x
itself f p = record { held = f; size = p; keeps = kept }

-- the same of a number that it is kept of
pub retarget : {k : ℕ} {x y r : Float} → Near k x r → T (fits binary64 y) → Pow k y → Keeps y x → Near k y r
retarget h f p g = record { held = f; size = p; keeps = keeps_on g h.keeps }

keeps_add : {x y r t : Float} → T (fits binary64 x) → T (fits binary64 y) → Keeps x r → Keeps y t → Keeps (x ⊕ y) (r ⊕ t)
keeps_add f g kept kept = kept
keeps_add {x} f g kept (zeros p q) = keeps_pair (keeps_sum x _ f p) (keeps_sum x _ f q)
keeps_add {x} {y} {r} f g (zeros p q) kept =
    subst (λ (z : Float). Keeps z (r ⊕ y)) (sum_comm_f y x) (subst (λ (z : Float). Keeps (y ⊕ x) z) (sum_comm_f y r) (keeps_pair (keeps_sum y x g p) (keeps_sum y r g q)))
keeps_add f g (zeros p q) (zeros p' q') = zeros (zero_sum p p') (zero_sum q q')

keeps_mul : {i j : ℕ} {x y r t : Float} → Pow i x → Pow j y → Keeps x r → Keeps y t → Keeps (x ⊗ y) (r ⊗ t)
keeps_mul f g kept kept = kept
keeps_mul {x = x} {y = y} {t = t} f g kept (zeros p q) =
    zeros (subst Zero (product_comm y x) (zero_mul_mag p (of_pow f))) (subst Zero (product_comm t x) (zero_mul_mag q (of_pow f)))
keeps_mul f g (zeros p q) kept = zeros (zero_mul_mag p (of_pow g)) (zero_mul_mag q (of_pow g))
keeps_mul f g (zeros p q) (zeros p' q') = zeros (zero_mul_mag p p') (zero_mul_mag q q')

pub near_add : {k : ℕ} {x y r t : Float} → Near k x r → Near k y t → suc k ≤ 1023 → Near (suc k) (x ⊕ y) (r ⊕ t)
near_add {x = x} {y = y} h g l = record { held = add-fits binary64 x y; size = add_pow h.size g.size l; keeps = keeps_add h.held g.held h.keeps g.keeps }

pub near_neg : {k : ℕ} {x r : Float} → Near k x r → Near k (neg x) (neg r)
near_neg {x = x} h = record { held = neg-fits binary64 x h.held; size = neg_pow h.size; keeps = keeps_neg h.keeps }

pub near_sub : {k : ℕ} {x y r t : Float} → Near k x r → Near k y t → suc k ≤ 1023 → Near (suc k) (x ⊖ y) (r ⊖ t)
near_sub {k} {x} {y} {r} {t} h g l = subst (λ (z : Float). Near (suc k) z (r ⊖ t)) (sym (sub_is x y)) (subst (λ (z : Float). Near (suc k) (x ⊕ neg y) z) (sym (sub_is r t)) (near_add h (near_neg g) l))

pub near_mul : {i j : ℕ} {x y r t : Float} → Near i x r → Near j y t → i + j ≤ 1023 → Near (i + j) (x ⊗ y) (r ⊗ t)
near_mul {x = x} {y = y} h g l = record { held = mul-fits binary64 x y; size = mul_pow h.size g.size l; keeps = keeps_mul h.size g.size h.keeps g.keeps }
