-- The Stokes parameters after Born and Wolf (01 section 6), and their expansion in parts, each in any arithmetic. Definitions only.
-- Whole numbers are an arithmetic, where nothing is rounded; f64 is another, where every operation is. specs/Claim.antt says that in both
-- the second is the first written out.
use Rattle.std.specs.Prelude.{◌≡◌, ℤ, pos, neg_ℤ, ◌+ℤ◌, ◌-ℤ◌, ◌*ℤ◌, Float}
use Rattle.std.specs.Float.Ieee.{neg}
use Rattle.ieee.specs.Operators.{◌⊕◌, ◌⊖◌, ◌⊗◌}
use Rattle.ieee.specs.Functions as F

-- what the formulas are written with
pub record Arithmetic (A : Type 0) : Type 0 where
  pub plus : A → A → A
  pub minus : A → A → A
  pub times : A → A → A
  pub opposite : A → A
  pub two : A

-- the complex number re + i im
pub record Number (A : Type 0) : Type 0 where
  pub re : A
  pub im : A

pub record Parameters (A : Type 0) : Type 0 where
  pub s0 : A
  pub s1 : A
  pub s2 : A
  pub s3 : A

-- Re z and Im z
abbrev pub Re : {A : Type 0} → Number A → A
Re z = z.re

abbrev pub Im : {A : Type 0} → Number A → A
Im z = z.im

module _ {A : Type 0} (K : Arithmetic A) where
  -- the arithmetic's operations, infix
  infixl 6 ◌⟨+⟩◌
  infixl 6 ◌⟨-⟩◌
  infixl 7 ◌⟨·⟩◌
  abbrev ◌⟨+⟩◌ : A → A → A
  x ⟨+⟩ y = K.plus x y

  abbrev ◌⟨-⟩◌ : A → A → A
  x ⟨-⟩ y = K.minus x y

  abbrev ◌⟨·⟩◌ : A → A → A
  x ⟨·⟩ y = K.times x y

  -- z* = x - i y
  abbrev pub conjugate : Number A → Number A
  conjugate z = record { re = Re z; im = K.opposite (Im z) }

  -- z w = (x u - y v) + i (x v + y u)
  abbrev pub product : Number A → Number A → Number A
  product z w = record { re = Re z ⟨·⟩ Re w ⟨-⟩ Im z ⟨·⟩ Im w; im = Re z ⟨·⟩ Im w ⟨+⟩ Im z ⟨·⟩ Re w }

  -- |z|², the square of the modulus: x² + y²
  abbrev pub modulus_squared : Number A → A
  modulus_squared z = Re z ⟨·⟩ Re z ⟨+⟩ Im z ⟨·⟩ Im z

  -- the four parameters of the field (Ex, Ey)
  pub record BornAndWolf (ex ey : Number A) (s0 s1 s2 s3 : A) : Type 0 where
    -- S0 = |Ex|² + |Ey|²
    pub S0 : s0 ≡ modulus_squared ex ⟨+⟩ modulus_squared ey
    -- S1 = |Ex|² - |Ey|²
    pub S1 : s1 ≡ modulus_squared ex ⟨-⟩ modulus_squared ey
    -- S2 = 2·Re(Ex·Ey*)
    pub S2 : s2 ≡ K.two ⟨·⟩ Re (product ex (conjugate ey))
    -- S3 = 2·Im(Ex*·Ey)
    pub S3 : s3 ≡ K.two ⟨·⟩ Im (product (conjugate ex) ey)

  -- the same written out in the parts of Ex = x1 + i y1 and Ey = x2 + i y2: S2 = 2·(x1 x2 + y1 y2), S3 = 2·(x1 y2 - y1 x2)
  abbrev pub in_parts : Number A → Number A → Parameters A
  in_parts ex ey = record {
    s0 = (ex.re ⟨·⟩ ex.re ⟨+⟩ ex.im ⟨·⟩ ex.im) ⟨+⟩ (ey.re ⟨·⟩ ey.re ⟨+⟩ ey.im ⟨·⟩ ey.im);
    s1 = (ex.re ⟨·⟩ ex.re ⟨+⟩ ex.im ⟨·⟩ ex.im) ⟨-⟩ (ey.re ⟨·⟩ ey.re ⟨+⟩ ey.im ⟨·⟩ ey.im);
    s2 = K.two ⟨·⟩ (ex.re ⟨·⟩ ey.re ⟨+⟩ ex.im ⟨·⟩ ey.im);
    s3 = K.two ⟨·⟩ (ex.re ⟨·⟩ ey.im ⟨-⟩ ex.im ⟨·⟩ ey.re);
  }

-- whole numbers
abbrev pub exact : Arithmetic ℤ
exact = record { plus = ◌+ℤ◌; minus = ◌-ℤ◌; times = ◌*ℤ◌; opposite = neg_ℤ; two = pos 2 }

-- f64, each operation rounded
abbrev pub rounded : Arithmetic Float
rounded = record { plus = ◌⊕◌; minus = ◌⊖◌; times = ◌⊗◌; opposite = neg; two = F.two }
