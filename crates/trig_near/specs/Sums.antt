-- The partial sums of the series for sine and cosine, as exact fractions of whole numbers. Definitions only.
use Rattle.std.specs.Prelude.{ℕ, zero, suc, ◌+◌, ◌-◌, ◌*◌, ◌^◌, Bool, false, not, ℤ, pos, nat_abs, ◌+ℤ◌, ◌*ℤ◌}
use Rattle.whole_f64.specs.Whole.{signed}

abbrev pub odd : ℕ → Bool
odd zero = false
odd (suc k) = not (odd k)

-- with z = Z / Y: 1 - z / D(1) + z² / (D(1)·D(2)) - .., N terms after the 1, is `top` / `bottom`
abbrev pub bottom : (ℕ → ℕ) → ℕ → ℕ → ℕ
bottom D Y zero = 1
bottom D Y (suc N) = bottom D Y N * (Y * D (suc N))

abbrev pub top : (ℕ → ℕ) → ℕ → ℕ → ℕ → ℤ
top D Z Y zero = pos 1
top D Z Y (suc N) = top D Z Y N *ℤ pos (Y * D (suc N)) +ℤ signed (odd (suc N)) (Z ^ suc N)

-- (2k)(2k+1), so that D(1)···D(k) is (2k+1)!
abbrev pub sine_steps : ℕ → ℕ
sine_steps k = 2 * k * (2 * k + 1)

-- (2k-1)(2k), so that D(1)···D(k) is (2k)!
abbrev pub cosine_steps : ℕ → ℕ
cosine_steps k = (2 * k - 1) * (2 * k)

-- ---- at the angle x = X / W, whose square is z: the cosine 1 - z/2! + z²/4! - .., and the sine x·(1 - z/3! + z²/5! - ..)
abbrev pub cosine_top : ℤ → ℕ → ℕ → ℤ
cosine_top X W N = top cosine_steps (nat_abs X * nat_abs X) (W * W) N

abbrev pub cosine_bottom : ℕ → ℕ → ℕ
cosine_bottom W N = bottom cosine_steps (W * W) N

abbrev pub sine_top : ℤ → ℕ → ℕ → ℤ
sine_top X W N = X *ℤ top sine_steps (nat_abs X * nat_abs X) (W * W) N

abbrev pub sine_bottom : ℕ → ℕ → ℕ
sine_bottom W N = W * bottom sine_steps (W * W) N
