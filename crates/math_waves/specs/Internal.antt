-- Internal: near angles as the code has them. A reader need not believe it.
use Rattle.std.specs.Prelude.{ℕ, zero, suc, Bool, true, not, ◌&&◌, cond, List, get_or, Float}
use Rattle.std.specs.Float.{nan}
use Rattle.std.specs.Float.Ieee.{neg, lt}
use Rattle.ieee.specs.Operators.{◌⊖◌, ◌⊗◌, ◌⊘◌}
use Rattle.ieee.specs.Functions.{one, minus_one, clamp}
use Rattle.ieee_quotient.specs.Quick.{quick, whole, below_6, above_6, below_12, above_12, below_20, above_20, below_72, above_72, below_132, above_132, below_272, above_272}
use Rattle.math_trig.specs.Angles.{pi, minus_pi, half_pi, minus_half_pi, turns_limit}
use Rattle.math_trig.specs.Trig.{second_fold, sin_at, cos_at}
use Rattle.math_trig.specs.Internal.{near_line}
use Rattle.math_waves.specs.Waves.{written}

unfoldable pub turned : Float → Float → Float
turned r c = cond (lt half_pi r) (neg c) (cond (lt r minus_half_pi) (neg c) c)

unfoldable pub near : Float → Float → Bool
near x r = lt x turns_limit && lt (neg turns_limit) x && (not (lt pi r) && not (lt r minus_pi))

-- the first n
unfoldable pub all_near : List Float → ℕ → Bool
all_near x zero = true
all_near x (suc n) = all_near x n && near (get_or x n nan) (near_line (get_or x n nan))

unfoldable pub near_sin : Float → Float
near_sin x = sin_at (second_fold (near_line x))

unfoldable pub near_cos : Float → Float
near_cos x =
    let r = near_line x in
    turned r (cos_at (second_fold r))

-- ---- in steps
abbrev pub at : List Float → ℕ → Float
at l i = get_or l i nan

unfoldable pub near_fold : Float → Float
near_fold x = second_fold (near_line x)

unfoldable pub near_square : Float → Float
near_square x = near_fold x ⊗ near_fold x

-- a step of a series, by c or by a + b
unfoldable pub step : Float → Float → Float → Float
step c z p = one ⊖ (p ⊗ z) ⊘ c

unfoldable pub quick_step : Float → Float → Float → Float → Float → Float → Float
quick_step a b y u z p = one ⊖ quick a b y u (p ⊗ z)

-- of the first n
abbrev pub stepped : (Float → Float → Float) → List Float → ℕ → List Float → List Float
stepped f z n p = written (λ i. f (at z i) (at p i)) n p

unfoldable pub sin_end : Float → Float → Float
sin_end a s = clamp (a ⊗ s) minus_one one

unfoldable pub cos_end : Float → Float → Float
cos_end r c = turned r (clamp c minus_one one)

abbrev pub by_6 : Float → Float → Float
by_6 = quick_step (whole 4) (whole 2) below_6 above_6

abbrev pub by_12 : Float → Float → Float
by_12 = quick_step (whole 8) (whole 4) below_12 above_12

abbrev pub by_20 : Float → Float → Float
by_20 = quick_step (whole 16) (whole 4) below_20 above_20

abbrev pub by_72 : Float → Float → Float
by_72 = quick_step (whole 64) (whole 8) below_72 above_72

abbrev pub by_132 : Float → Float → Float
by_132 = quick_step (whole 128) (whole 4) below_132 above_132

abbrev pub by_272 : Float → Float → Float
by_272 = quick_step (whole 256) (whole 16) below_272 above_272

-- the steps of both series, of which the first go down to a divisor of 156
unfoldable pub first_sin : Float → Float → Float
first_sin z p =
    let q = step (whole 342) z (step (whole 420) z p) in
    step (whole 156) z (step (whole 210) z (by_272 z q))

unfoldable pub last_sin : Float → Float → Float
last_sin z p =
    let q = by_72 z (step (whole 110) z p) in
    by_6 z (by_20 z (step (whole 42) z q))

unfoldable pub first_cos : Float → Float → Float
first_cos z p =
    let q = step (whole 306) z (step (whole 380) z (step (whole 462) z p)) in
    step (whole 182) z (step (whole 240) z q)

unfoldable pub last_cos : Float → Float → Float
last_cos z p =
    let q = step (whole 90) z (by_132 z p) in
    let q = step (whole 30) z (step (whole 56) z q) in
    step (whole 2) z (by_12 z q)

unfoldable pub sin_steps : Float → Float
sin_steps z = last_sin z (first_sin z one)

unfoldable pub cos_steps : Float → Float
cos_steps z = last_cos z (first_cos z one)

unfoldable pub quick_sin : Float → Float
quick_sin x = sin_end (near_fold x) (sin_steps (near_square x))

unfoldable pub quick_cos : Float → Float
quick_cos x = cos_end (near_line x) (cos_steps (near_square x))
