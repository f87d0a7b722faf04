-- 01 section 2, exp. Definitions only.
use Rattle.std.specs.Prelude.{ℕ, zero, suc, false, cond, pos, Float}
use Rattle.std.specs.Float.{nan, inf, binary64}
use Rattle.std.specs.Float.Ieee.{lt, of_int, of_bits, is_nan}
use Rattle.ieee.specs.Operators.{◌⊕◌, ◌⊗◌, ◌⊘◌}
use Rattle.ieee.specs.Functions.{zero_f, one}

-- 1024
abbrev pub two_to_10 : Float
two_to_10 = of_bits binary64 0x4090_0000_0000_0000

-- 710
abbrev pub exp_most : Float
exp_most = of_bits binary64 0x4086_3000_0000_0000

-- -746
abbrev pub exp_least : Float
exp_least = of_bits binary64 0xC087_5000_0000_0000

-- for m down to 1, p = 1 + (y·p)/m
unfoldable pub exp_series : ℕ → Float → Float → Float
exp_series zero y p = p
exp_series (suc m) y p = exp_series m y (one ⊕ (y ⊗ p) ⊘ of_int binary64 (pos (suc m)))

-- n times p = p·p
unfoldable pub squares : ℕ → Float → Float
squares zero p = p
squares (suc n) p = squares n (p ⊗ p)

-- y = x/1024, p = 1; for m = 14 down to 1; then p = p·p ten times
unfoldable pub exp_at : Float → Float
exp_at x = squares 10 (exp_series 14 (x ⊘ two_to_10) one)

-- NaN stays; above 710 infinity, below -746 zero
unfoldable pub exp : Float → Float
exp x = cond (is_nan x) nan (cond (lt exp_most x) (inf false) (cond (lt x exp_least) zero_f (exp_at x)))
