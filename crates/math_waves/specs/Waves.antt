-- The sines and cosines of up to 16 angles in places. Definitions only.
use Rattle.std.specs.Prelude.{ℕ, zero, suc, ◌-◌, List, get_or, set, Float}
use Rattle.std.specs.Float.{nan}

-- f 0, f 1, .. stored in the first n places of a list; the others stay
unfoldable pub written : (ℕ → Float) → ℕ → List Float → List Float
written f zero l = l
written f (suc n) l = set (written f n l) n (f n)

-- n, and 16 where n is more
abbrev pub at_most_16 : ℕ → ℕ
at_most_16 n = 16 - (16 - n)

-- f of the first n numbers of x
abbrev pub each_first : (Float → Float) → List Float → ℕ → List Float → List Float
each_first f x n l = written (λ k. f (get_or x k nan)) n l

-- of 16 at the most
abbrev pub each : (Float → Float) → List Float → ℕ → List Float → List Float
each f x n l = each_first f x (at_most_16 n) l
