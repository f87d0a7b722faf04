-- What is claimed of the conversion (02, slip 8). Definitions only; proofs/Claim.antt has the proof.
use Rattle.std.specs.Prelude.{◌≤◌, ◌≡◌, [], ◌∷◌, ℤ, nat_abs}
use Rattle.std.specs.Float.{binary64}
use Rattle.std.specs.Float.Ieee.{neg, of_bits}
use Rattle.ieee.specs.Operators.{◌⊕◌, ◌⊖◌, ◌⊗◌}
use Rattle.ieee.specs.Functions.{zero_f}
use Rattle.ieee.specs.Range.{Pow}
use Rattle.thin_film_complex.specs.declared.Complex.{Complex}
use Rattle.thin_film_complex.specs.Complex.{norm_sq}
use Rattle.polarization_stokes.specs.declared.JonesVector.{JonesVector}
use Rattle.polarization_stokes.specs.declared.StokesVector.{StokesVector}
use Rattle.polarization_stokes.specs.BornWolf.{Arithmetic, Number, Parameters, product, in_parts, exact}
use Rattle.polarization_stokes.specs.Jones.{to_stokes}
use Rattle.polarization_mueller.specs.declared.JonesMatrix.{JonesMatrix}
use Rattle.polarization_mueller.specs.declared.MuellerMatrix.{MuellerMatrix}
use Rattle.polarization_mueller.specs.Jones as Jones
use Rattle.polarization_mueller.specs.Jones.{entry, apply, diattenuator}
use Rattle.polarization_mueller.specs.Mueller as Mueller
use Rattle.polarization_mueller.specs.Mueller.{apply_mueller, mean, half_gap, to_mueller}
use Rattle.polarization_value.specs.Value.{FiniteParts, SameStokes, SameMueller}
use Rattle.whole_f64.specs.Whole.{Is}
use Rattle.polarization_born_wolf.specs.Conversion.{to_mueller_born_wolf}

-- ---- "Jones entries and vectors whose parts are whole and at most 1,024 in size"
-- z is the complex number w of whole numbers
pub record Whole (z : Complex) (w : Number ℤ) : Type 0 where
  pub re : Is 0 z.re w.re
  pub im : Is 0 z.im w.im
  pub re_most : nat_abs w.re ≤ 1024
  pub im_most : nat_abs w.im ≤ 1024

-- a Jones matrix of whole numbers, row after row
pub record WholeMatrix (j : JonesMatrix) (p q r s : Number ℤ) : Type 0 where
  pub m00 : Whole (entry j 0) p
  pub m01 : Whole (entry j 1) q
  pub m10 : Whole (entry j 2) r
  pub m11 : Whole (entry j 3) s

pub record WholeVector (v : JonesVector) (x y : Number ℤ) : Type 0 where
  pub ex : Whole v.ex x
  pub ey : Whole v.ey y

-- ---- the same with nothing rounded
-- p x + q y, in any arithmetic
abbrev pub dot : {A : Type 0} → Arithmetic A → Number A → Number A → Number A → Number A → Number A
dot K p x q y =
    let a = product K p x in
    let b = product K q y in
    record { re = K.plus a.re b.re; im = K.plus a.im b.im }

-- a Stokes vector is these whole numbers
pub record StokesAre (s : StokesVector) (w : Parameters ℤ) : Type 0 where
  pub s0 : Is 0 s.s0 w.s0
  pub s1 : Is 0 s.s1 w.s1
  pub s2 : Is 0 s.s2 w.s2
  pub s3 : Is 0 s.s3 w.s3

-- ---- the four columns of a diagonal matrix: with c + i s = tx*·ty,
-- (|tx|² + |ty|²)/2, (|tx|² - |ty|²)/2, 0, 0; the same two exchanged; 0, 0, c, s; 0, 0, -s, c
unfoldable pub diagonal : Complex → Complex → MuellerMatrix
diagonal tx ty =
    let c = tx.re ⊗ ty.re ⊕ tx.im ⊗ ty.im in
    let s = tx.re ⊗ ty.im ⊖ tx.im ⊗ ty.re in
    let sum = mean (norm_sq tx) (norm_sq ty) in
    let gap = half_gap (norm_sq tx) (norm_sq ty) in
    record {
      m =
          sum ∷ gap ∷ zero_f ∷ zero_f
          ∷ gap ∷ sum ∷ zero_f ∷ zero_f
          ∷ zero_f ∷ zero_f ∷ c ∷ neg s
          ∷ zero_f ∷ zero_f ∷ s ∷ c ∷ [];
    }

-- both parts are f64 of at most 2^500 in size, so that nothing overflows
pub record Moderate (z : Complex) : Type 0 where
  pub finite : FiniteParts z
  pub re : Pow 500 z.re
  pub im : Pow 500 z.im

-- ---- the claim
pub record BornWolfClaim : Type 0 where
  -- "its matrix applied to the Stokes vector equals the Stokes vector of the transformed beam exactly, zeros of both signs being equal"
  pub transforms : (j : JonesMatrix) (v : JonesVector) (p q r s x y : Number ℤ) → WholeMatrix j p q r s → WholeVector v x y →
      SameStokes (apply_mueller (to_mueller_born_wolf j) (to_stokes v)) (to_stokes (apply j v))
  -- and that one is rounded nowhere
  pub exactly : (j : JonesMatrix) (v : JonesVector) (p q r s x y : Number ℤ) → WholeMatrix j p q r s → WholeVector v x y →
      StokesAre (to_stokes (apply j v)) (in_parts exact (dot exact p x q y) (dot exact r x s y))
  -- "the matrix of empty space must be the identity": bit for bit
  pub empty_space : to_mueller_born_wolf Jones.identity ≡ Mueller.identity
  -- "to_mueller is held to the Rust as before": there the fourth column has the other sign. Of empty space [3][3] is -(1 + 2^-52)
  pub turned : Mueller.entry (to_mueller Jones.identity) 15 ≡ of_bits binary64 0xBFF0_0000_0000_0001
  -- of a diagonal matrix, for all f64 that do not overflow
  pub columns : (tx ty : Complex) → Moderate tx → Moderate ty → SameMueller (to_mueller_born_wolf (diattenuator tx ty)) (diagonal tx ty)
