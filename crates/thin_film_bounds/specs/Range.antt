-- Ranges of complex numbers and of matrices. Definitions only; a bound is p / 2 ^ j, as in ieee's specs/Range.antt.
use Rattle.std.specs.Prelude.{ℕ}
use Rattle.ieee.specs.Range.{Mag, In, Pow}
use Rattle.thin_film_complex.specs.declared.Complex.{Complex}
use Rattle.thin_film_matrix.specs.Matrix.{Matrix, at}

-- both parts are finite, and at most p / 2 ^ j in size
pub record CMag (p j : ℕ) (z : Complex) : Type 0 where
  pub re : Mag p j z.re
  pub im : Mag p j z.im

-- the same of 2 ^ k, for a k that need not be a numeral
pub record CPow (k : ℕ) (z : Complex) : Type 0 where
  pub re : Pow k z.re
  pub im : Pow k z.im

-- the real part is from a / 2 ^ i to p / 2 ^ j, and the imaginary part is a zero of either sign
pub record Real (a i p j : ℕ) (z : Complex) : Type 0 where
  pub re : In a i p j z.re
  pub im : Mag 0 0 z.im

-- each of the four entries
pub record MPow (k : ℕ) (m : Matrix) : Type 0 where
  pub m11 : CPow k (at m 0 0)
  pub m12 : CPow k (at m 0 1)
  pub m21 : CPow k (at m 1 0)
  pub m22 : CPow k (at m 1 1)
