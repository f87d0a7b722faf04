-- `Complex` of thin_film.rs, method by method, in the Rust's order of operations. Definitions only.
use Rattle.std.specs.Prelude.{cond, Float}
use Rattle.std.specs.Float.{binary64}
use Rattle.std.specs.Float.Ieee.{neg, lt, le}
use Rattle.ieee.specs.Operators.{◌⊕◌, ◌⊖◌, ◌⊗◌, ◌⊘◌}
use Rattle.ieee.specs.Functions.{zero_f, two, tiny, max}
use Rattle.math_root.specs.Root.{square_root}
use Rattle.math_trig.specs.Trig.{sin, cos}
use Rattle.math_exp.specs.Exp as Exp
use Rattle.math_atan.specs.Atan.{atan2}
use Rattle.thin_film_complex.specs.declared.Complex.{Complex}

-- z = x + 0 i
unfoldable pub real : Float → Complex
real x = record { re = x; im = zero_f }

abbrev pub zero : Complex
zero = record { re = zero_f; im = zero_f }

unfoldable pub scale : Complex → Float → Complex
scale z s = record { re = z.re ⊗ s; im = z.im ⊗ s }

unfoldable pub norm_sq : Complex → Float
norm_sq z = z.re ⊗ z.re ⊕ z.im ⊗ z.im

unfoldable pub norm : Complex → Float
norm z = square_root binary64 (norm_sq z)

unfoldable pub arg : Complex → Float
arg z = atan2 z.im z.re

-- e^z = e^x (cos y + i sin y)
unfoldable pub exp : Complex → Complex
exp z = record { re = Exp.exp z.re ⊗ cos z.im; im = Exp.exp z.re ⊗ sin z.im }

-- (x / 2.0).max(0.0).sqrt()
unfoldable pub half_root : Float → Float
half_root x = square_root binary64 (max (x ⊘ two) zero_f)

-- the principal branch: u + v i, v negated where the imaginary part is not at least zero
unfoldable pub sqrt : Complex → Complex
sqrt z =
    let r = norm z in
    record {
      re = half_root (r ⊕ z.re);
      im = cond (le zero_f z.im) (half_root (r ⊖ z.re)) (neg (half_root (r ⊖ z.re)));
    }

unfoldable pub add : Complex → Complex → Complex
add z w = record { re = z.re ⊕ w.re; im = z.im ⊕ w.im }

unfoldable pub sub : Complex → Complex → Complex
sub z w = record { re = z.re ⊖ w.re; im = z.im ⊖ w.im }

unfoldable pub mul : Complex → Complex → Complex
mul z w = record { re = z.re ⊗ w.re ⊖ z.im ⊗ w.im; im = z.re ⊗ w.im ⊕ z.im ⊗ w.re }

-- the quotient of z by w, whose norm-sq is denom
unfoldable pub quotient : Complex → Complex → Float → Complex
quotient z w denom = record {
  re = (z.re ⊗ w.re ⊕ z.im ⊗ w.im) ⊘ denom;
  im = (z.im ⊗ w.re ⊖ z.re ⊗ w.im) ⊘ denom;
}

-- a denominator below 1e-28 makes the quotient zero. A NaN is not below it, and passes (01 section 4)
unfoldable pub div : Complex → Complex → Complex
div z w = cond (lt (norm_sq w) tiny) zero (quotient z w (norm_sq w))

-- the four operations of two complex numbers, infix, so that a formula reads as a formula
infixl 6 ◌⊞◌
infixl 6 ◌⊟◌
infixl 7 ◌⊠◌
infixl 7 ◌⧄◌
abbrev pub ◌⊞◌ : Complex → Complex → Complex
z ⊞ w = add z w

abbrev pub ◌⊟◌ : Complex → Complex → Complex
z ⊟ w = sub z w

abbrev pub ◌⊠◌ : Complex → Complex → Complex
z ⊠ w = mul z w

abbrev pub ◌⧄◌ : Complex → Complex → Complex
z ⧄ w = div z w
