-- What the two laws of specs/Order.antt leave out is needed: answers computed from the definitions.
use Rattle.std.specs.Prelude.{◌≡◌, false, Float}
use Rattle.std.specs.Float.{nan, inf, binary64}
use Rattle.std.specs.Float.Ieee.{neg, of_bits}
use Rattle.ieee.specs.Functions.{zero_f, one}
use Rattle.thin_film_complex.specs.declared.Complex.{Complex}
use Rattle.thin_film_complex.specs.Complex.{real, zero}
use Rattle.polarization_mueller.specs.declared.JonesMatrix.{JonesMatrix}
use Rattle.polarization_mueller.specs.Jones.{jones, entry, identity, diattenuator, mul}

-- x + i x
abbrev pub both : Float → Complex
both x = record { re = x; im = x }

-- two plates whose orders differ in the sign of a zero
abbrev pub minus_plus : JonesMatrix
minus_plus = diattenuator (both (neg one)) (both one)

abbrev pub plus_minus : JonesMatrix
plus_minus = diattenuator (both one) (both (neg one))

-- 2^1023, whose square is no f64
abbrev pub large : JonesMatrix
large = diattenuator (both (of_bits binary64 0x7FE0_0000_0000_0000)) zero

-- a plate that lets x pass, and one that turns y into x, which is not diagonal
abbrev pub along_x : JonesMatrix
along_x = diattenuator (real one) zero

abbrev pub y_into_x : JonesMatrix
y_into_x = jones zero (real one) zero zero

abbrev pub infinite : JonesMatrix
infinite = diattenuator (real (inf false)) zero

pub record Sharp : Type 0 where
  -- in value and not bit for bit: [0][1] has the imaginary part -0 in one order and +0 in the other
  pub minus_zero : (entry (mul minus_plus plus_minus) 1).im ≡ neg zero_f
  pub plus_zero : (entry (mul plus_minus minus_plus) 1).im ≡ zero_f
  -- the identity times -0 is +0
  pub sign_lost : (entry (mul identity (diattenuator (real (neg zero_f)) zero)) 0).re ≡ zero_f
  -- finite entries can give a NaN, in either order
  pub overflows : (entry (mul large large) 0).re ≡ nan
  -- a matrix that is not diagonal: [0][1] is 1 in one order and 0 in the other
  pub x_last : (entry (mul along_x y_into_x) 1).re ≡ one
  pub x_first : (entry (mul y_into_x along_x) 1).re ≡ zero_f
  -- an infinite entry: the identity times it has a NaN where it has 0
  pub identity_infinite : (entry (mul identity infinite) 0).im ≡ nan
  -- and two plates differ in their order
  pub infinite_first : (entry (mul infinite identity) 1).re ≡ nan
  pub infinite_last : (entry (mul identity infinite) 1).re ≡ zero_f
