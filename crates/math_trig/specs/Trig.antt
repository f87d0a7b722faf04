-- 01 section 2, sin and cos, with the first line of 02 slip 7. Definitions only.
use Rattle.std.specs.Prelude.{ℕ, zero, suc, ◌+◌, ◌-◌, ◌*◌, cond, pos, Float}
use Rattle.std.specs.Float.{binary64}
use Rattle.std.specs.Float.Ieee.{neg, rem, lt, le, of_int}
use Rattle.ieee.specs.Operators.{◌⊕◌, ◌⊖◌, ◌⊗◌, ◌⊘◌}
use Rattle.ieee.specs.Functions.{one, minus_one, abs, clamp}
use Rattle.whole_nearest.specs.Nearest.{nearest_whole}
use Rattle.math_trig.specs.declared.SinCos.{SinCos}
use Rattle.math_trig.specs.Angles.{tau, pi, minus_pi, half_pi, minus_half_pi, tau_high, tau_low, turns_limit}

-- ---- the folds
-- above π subtract T, below -π add T
unfoldable pub wrap : Float → Float
wrap r = cond (lt pi r) (r ⊖ tau) (cond (lt r minus_pi) (r ⊕ tau) r)

-- 02 slip 7: r = ((x - k·T1) - k·(T - T1)) - k·t
unfoldable pub less_turns : Float → Float → Float
less_turns k x = x ⊖ k ⊗ tau_high ⊖ k ⊗ (tau ⊖ tau_high) ⊖ k ⊗ tau_low

-- 'k, the whole number nearest to the rounded quotient x/T, ties to even (a zero k is +0)'
unfoldable pub reduce : Float → Float
reduce x = less_turns (nearest_whole (x ⊘ tau)) x

-- the first line: 'for abs x at most 2^20' that, beyond it r = x % T
unfoldable pub first_line : Float → Float
first_line x = cond (le (abs x) turns_limit) (reduce x) (rem binary64 x tau)

-- the first fold, of sin and of cos: above π subtract T, below -π add T
unfoldable pub fold : Float → Float
fold x = wrap (first_line x)

-- sin's second: above π/2 take π - r, below -π/2 take -π - r
unfoldable pub second_fold : Float → Float
second_fold r = cond (lt half_pi r) (pi ⊖ r) (cond (lt r minus_half_pi) (minus_pi ⊖ r) r)

-- ---- the series: for m down to 1, p = 1 - (p·z)/(d m)
unfoldable pub series : (ℕ → Float) → ℕ → Float → Float → Float
series d zero z p = p
series d (suc m) z p = series d m z (one ⊖ (p ⊗ z) ⊘ d (suc m))

-- (2m)(2m+1)
abbrev pub sin_div : ℕ → Float
sin_div m = of_int binary64 (pos (2 * m * (2 * m + 1)))

-- (2m-1)(2m)
abbrev pub cos_div : ℕ → Float
cos_div m = of_int binary64 (pos ((2 * m - 1) * (2 * m)))

-- ---- sin: z = r·r, p = 1; for m = 10 down to 1; r·p, clamped to -1..1
unfoldable pub sin_at : Float → Float
sin_at r = clamp (r ⊗ series sin_div 10 (r ⊗ r) one) minus_one one

unfoldable pub sin : Float → Float
sin x = sin_at (second_fold (fold x))

-- ---- cos: p = 1; for m = 11 down to 1, z = a·a; clamped
unfoldable pub cos_at : Float → Float
cos_at a = clamp (series cos_div 11 (a ⊗ a) one) minus_one one

-- if a > π/2 use π - a and negate the answer
unfoldable pub cos_of : Float → Float
cos_of a = cond (lt half_pi a) (neg (cos_at (pi ⊖ a))) (cos_at a)

-- the same first fold, a = abs r
unfoldable pub cos : Float → Float
cos x = cos_of (abs (fold x))

-- both, of one argument
abbrev pub sin_cos : Float → SinCos
sin_cos x = record { sin = sin x; cos = cos x }
