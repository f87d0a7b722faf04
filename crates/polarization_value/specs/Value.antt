-- Equality in value (02, slips 8 and 10): zeros of both signs are equal, and all NaNs are one. Definitions only.
use Rattle.std.specs.Prelude.{ℕ, ◌<◌, Bool, ◌&&◌, ◌||◌, T, Float}
use Rattle.std.specs.Float.{binary64}
use Rattle.std.specs.Float.Ieee.{eq, is_nan, fits}
use Rattle.std.specs.Float.Ieee.Scale.{finite}
use Rattle.thin_film_complex.specs.declared.Complex.{Complex}
use Rattle.polarization_stokes.specs.declared.StokesVector.{StokesVector}
use Rattle.polarization_mueller.specs.declared.JonesMatrix.{JonesMatrix}
use Rattle.polarization_mueller.specs.declared.MuellerMatrix.{MuellerMatrix}
use Rattle.polarization_mueller.specs.Jones as Jones
use Rattle.polarization_mueller.specs.Mueller as Mueller

-- two floats: the language's ==, by which -0 is +0, or both are NaN
abbrev pub same : Float → Float → Bool
same x y = eq x y || is_nan x && is_nan y

-- a finite number that an f64 holds
pub record Finite (x : Float) : Type 0 where
  pub fine : T (finite x)
  pub held : T (fits binary64 x)

pub record FiniteParts (z : Complex) : Type 0 where
  pub re : Finite z.re
  pub im : Finite z.im

-- both parts of a complex number
pub record SameComplex (z w : Complex) : Type 0 where
  pub re : T (same z.re w.re)
  pub im : T (same z.im w.im)

-- all four Stokes parameters
pub record SameStokes (s t : StokesVector) : Type 0 where
  pub s0 : T (same s.s0 t.s0)
  pub s1 : T (same s.s1 t.s1)
  pub s2 : T (same s.s2 t.s2)
  pub s3 : T (same s.s3 t.s3)

-- all four entries of a Jones matrix
abbrev pub SameJones : JonesMatrix → JonesMatrix → Type 0
SameJones a b = (i : ℕ) → i < 4 → SameComplex (Jones.entry a i) (Jones.entry b i)

-- all sixteen entries of a Mueller matrix
abbrev pub SameMueller : MuellerMatrix → MuellerMatrix → Type 0
SameMueller m n = (i : ℕ) → i < 16 → T (same (Mueller.entry m i) (Mueller.entry n i))
