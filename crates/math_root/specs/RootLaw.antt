-- What proofs of ranges ask of a square root: it keeps ranges, and the root of a rounded square is the number. Definitions only;
-- proofs/Range.antt has both for `sqrt`.
use Rattle.std.specs.Prelude.{◌≡◌, ℕ, ◌*◌, ◌^◌, Bool, ◌&&◌, T, leb, Float}
use Rattle.std.specs.Float.{binary64}
use Rattle.std.specs.Float.Ieee.{fits}
use Rattle.ieee.specs.Operators.{◌⊗◌}
use Rattle.ieee.specs.Range.{In, holds}

-- (b / 2 ^ k) ^ 2 ≤ a / 2 ^ i and p / 2 ^ j ≤ (q / 2 ^ l) ^ 2, and an f64 holds b / 2 ^ k and q / 2 ^ l
abbrev pub roots : ℕ → ℕ → ℕ → ℕ → ℕ → ℕ → ℕ → ℕ → Bool
roots a i p j b k q l = leb (b * b * 2 ^ i) (a * (2 ^ k * 2 ^ k)) && (leb (p * (2 ^ l * 2 ^ l)) (q * q * 2 ^ j) && (holds b k && holds q l))

pub record RootLaw (sqrt : Float → Float) : Type 0 where
  pub root_in : {a i p j b k q l : ℕ} {x : Float} → In a i p j x → T (roots a i p j b k q l) → In b k q l (sqrt x)
  -- away from the ends of the range
  pub root_sq : {x : Float} → In 1 10 1024 0 x → T (fits binary64 x) → sqrt (x ⊗ x) ≡ x
