-- An f64 that is a whole number, or a whole number of 2 ^ -k: +, - and × of such are exact while the result stays below 2 ^ 53 in size.
-- Definitions only; proofs/Laws.antt has the proof.
use Rattle.std.specs.Prelude.{◌≡◌, ℕ, ◌+◌, ◌*◌, ◌^◌, ◌≤◌, ◌<◌, Bool, true, false, T, ℤ, pos, neg_ℤ, nat_abs, ◌+ℤ◌, ◌-ℤ◌, ◌*ℤ◌, Float}
use Rattle.std.specs.Float.{binary64}
use Rattle.std.specs.Float.Ieee.{fits, eq}
use Rattle.std.specs.Float.Ieee.Scale.{finite}
use Rattle.std.specs.Float.Ieee.Positive.{num, den}
use Rattle.ieee.specs.Operators.{◌⊕◌, ◌⊖◌, ◌⊗◌}
use Rattle.ieee.specs.Range.{sgn}

-- n, negative where s is true; a zero has no sign
abbrev pub signed : Bool → ℕ → ℤ
signed false n = pos n
signed true n = neg_ℤ (pos n)

-- the f64 x is z / 2 ^ k; for k = 0 it is the whole number z. A zero of either sign is 0
pub record Is (k : ℕ) (x : Float) (z : ℤ) : Type 0 where
  pub fine : T (finite x)
  pub size : num x * 2 ^ k ≡ nat_abs z * den x
  pub sign : signed (sgn x) (nat_abs z) ≡ z

-- the claim. 2 ^ -1074 is the smallest f64 above zero
pub record ExactOperations : Type 0 where
  pub sum : {k : ℕ} {x y : Float} {z w : ℤ} → Is k x z → Is k y w → nat_abs (z +ℤ w) < 2 ^ 53 → k ≤ 1074 → Is k (x ⊕ y) (z +ℤ w)
  pub difference : {k : ℕ} {x y : Float} {z w : ℤ} → Is k x z → Is k y w → nat_abs (z -ℤ w) < 2 ^ 53 → k ≤ 1074 → Is k (x ⊖ y) (z -ℤ w)
  pub product : {j k : ℕ} {x y : Float} {z w : ℤ} → Is j x z → Is k y w → nat_abs (z *ℤ w) < 2 ^ 53 → j + k ≤ 1074 →
      Is (j + k) (x ⊗ y) (z *ℤ w)
  -- every whole number of that size is an f64, and two that are the same number compare equal
  pub every : (z : ℤ) → nat_abs z < 2 ^ 53 → (x : Float) × (T (fits binary64 x) × Is 0 x z)
  pub equal : {k : ℕ} {x y : Float} {z : ℤ} → Is k x z → Is k y z → T (eq x y)
