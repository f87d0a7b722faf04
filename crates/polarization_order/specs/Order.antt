-- Order of two plates (02, slip 10), over `mul` and `identity` of `JonesMatrix`. Definitions only; proofs/Order.antt has the proof.
use Rattle.std.specs.Prelude.{ℕ, ◌<◌, T}
use Rattle.ieee.specs.Functions.{is_zero}
use Rattle.thin_film_complex.specs.declared.Complex.{Complex}
use Rattle.polarization_mueller.specs.declared.JonesMatrix.{JonesMatrix}
use Rattle.polarization_mueller.specs.Jones.{entry, identity, diattenuator, mul}
use Rattle.polarization_value.specs.Value.{FiniteParts, SameJones}

-- "with finite entries"
abbrev pub FiniteEntries : JonesMatrix → Type 0
FiniteEntries j = (i : ℕ) → i < 4 → FiniteParts (entry j i)

-- both parts are zeros, of either sign
pub record ZeroParts (z : Complex) : Type 0 where
  pub re : T (is_zero z.re)
  pub im : T (is_zero z.im)

-- "zero off the diagonal"
pub record Diagonal (j : JonesMatrix) : Type 0 where
  pub m01 : ZeroParts (entry j 1)
  pub m10 : ZeroParts (entry j 2)

-- the claim
pub record OrderClaim : Type 0 where
  -- "for two of them as Jones matrices, zero off the diagonal and with finite entries, `mul` in either order gives entries equal in value,
  -- zeros of both signs being equal and all NaNs one"
  pub either_order : (a b : JonesMatrix) → Diagonal a → Diagonal b → FiniteEntries a → FiniteEntries b → SameJones (mul a b) (mul b a)
  -- "The bench swaps diattenuators freely": those that the Rust's constructor makes are such matrices
  pub diattenuators : (tx ty ux uy : Complex) → FiniteParts tx → FiniteParts ty → FiniteParts ux → FiniteParts uy →
      SameJones (mul (diattenuator tx ty) (diattenuator ux uy)) (mul (diattenuator ux uy) (diattenuator tx ty))
  -- "`identity` times any Jones matrix with finite entries equals that matrix in value, from either side"
  pub identity_left : (j : JonesMatrix) → FiniteEntries j → SameJones (mul identity j) j
  pub identity_right : (j : JonesMatrix) → FiniteEntries j → SameJones (mul j identity) j
