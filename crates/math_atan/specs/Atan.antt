-- 01 section 2, atan, asin and atan2. Definitions only.
use Rattle.std.specs.Prelude.{ℕ, zero, suc, ◌+◌, ◌*◌, Bool, ◌&&◌, ◌||◌, cond, pos, Float}
use Rattle.std.specs.Float.{nan, binary64}
use Rattle.std.specs.Float.Ieee.{neg, lt, of_int, is_nan}
use Rattle.ieee.specs.Operators.{◌⊕◌, ◌⊖◌, ◌⊗◌, ◌⊘◌}
use Rattle.ieee.specs.Functions.{zero_f, one, two, is_inf, is_zero, abs, three, four}
use Rattle.ieee.specs.Range.{sgn}
use Rattle.math_root.specs.Root.{sqrt}
use Rattle.math_trig.specs.Angles.{pi, half_pi, quarter_pi}

-- v with the sign bit s, for a v whose own is clear
unfoldable pub with_sign : Bool → Float → Float
with_sign s v = cond s (neg v) v

-- ---- atan
-- t = t/(1 + sqrt(1 + t·t))
unfoldable pub half_angle : Float → Float
half_angle t = t ⊘ (one ⊕ sqrt (one ⊕ t ⊗ t))

-- for m down to 0, p = 1/(2m+1) - z·p; the first argument is one more than m
unfoldable pub atan_series : ℕ → Float → Float → Float
atan_series zero z p = p
atan_series (suc m) z p = atan_series m z (one ⊘ of_int binary64 (pos (2 * m + 1)) ⊖ z ⊗ p)

-- z = t·t, p = 0; for m = 12 down to 0; 4·(t·p)
unfoldable pub atan_poly : Float → Float
atan_poly t = four ⊗ (t ⊗ atan_series 13 (t ⊗ t) zero_f)

-- t = a, or 1/a if a > 1; twice the half angle; v = 4·(t·p), or π/2 - that if a > 1
unfoldable pub atan_abs : Float → Float
atan_abs a = cond (lt one a) (half_pi ⊖ atan_poly (half_angle (half_angle (one ⊘ a)))) (atan_poly (half_angle (half_angle a)))

-- NaN stays; a = abs x; sign of x
unfoldable pub atan : Float → Float
atan x = cond (is_nan x) nan (with_sign (sgn x) (atan_abs (abs x)))

-- ---- asin: 2·atan(x/(1 + sqrt(1 - x·x)))
unfoldable pub asin : Float → Float
asin x = two ⊗ atan (x ⊘ (one ⊕ sqrt (one ⊖ x ⊗ x)))

-- ---- atan2
-- q, plus π if x < 0 < y, minus π if both are negative
unfoldable pub turned : Float → Float → Float → Float
turned q y x = cond (lt x zero_f && lt zero_f y) (q ⊕ pi) (cond (lt x zero_f && lt y zero_f) (q ⊖ pi) q)

-- NaN if either is. Both infinite: π/4, or 3·(π/4) for x negative. y zero or only x infinite: 0 if x's sign bit is clear, else π.
-- x zero or only y infinite: π/2. Else q = atan(y/x), turned. The sign of y throughout: q, q + π and q - π have it already
unfoldable pub atan2 : Float → Float → Float
atan2 y x =
    cond (is_nan y || is_nan x) nan
    (cond (is_inf y && is_inf x) (with_sign (sgn y) (cond (sgn x) (three ⊗ quarter_pi) quarter_pi))
    (cond (is_zero y || is_inf x) (with_sign (sgn y) (cond (sgn x) pi zero_f))
    (cond (is_zero x || is_inf y) (with_sign (sgn y) half_pi)
    (turned (atan (y ⊘ x)) y x))))
