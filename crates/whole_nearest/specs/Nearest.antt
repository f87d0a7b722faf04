-- 02 slip 7: the whole number nearest to a float, ties to even; a zero is +0. Definitions only; proofs/Claim.antt shows the claim.
use Rattle.std.specs.Prelude.{◌≡◌, ℕ, ◌+◌, ◌*◌, ◌%◌, ◌^◌, ◌≤◌, ◌<◌, Float}
use Rattle.std.specs.Float.{binary64}
use Rattle.std.specs.Float.Ieee.{of_int}
use Rattle.std.specs.Float.Ieee.Nearest.{closest}
use Rattle.std.specs.Float.Ieee.Positive.{num, den}
use Rattle.ieee.specs.Functions.{zero_f}
use Rattle.ieee.specs.Range.{sgn}
use Rattle.whole_f64.specs.Whole.{signed, Is}

-- K is the whole number nearest to the fraction n / d: |K - n / d| ≤ 1 / 2, and where that is 1 / 2, K is even
pub record Nearest (n d K : ℕ) : Type 0 where
  pub under : 2 * (K * d) ≤ 2 * n + d
  pub over : 2 * n ≤ 2 * (K * d) + d
  pub even_above : 2 * (K * d) ≡ 2 * n + d → K % 2 ≡ 0
  pub even_below : 2 * n ≡ 2 * (K * d) + d → K % 2 ≡ 0

-- the size of the whole number nearest to a finite q; `closest` is what rounding takes
abbrev pub nearest_size : Float → ℕ
nearest_size q = closest (num q) (den q)

-- as a float, with q's sign
unfoldable pub nearest_whole : Float → Float
nearest_whole q = of_int binary64 (signed (sgn q) (nearest_size q))

pub record NearestWhole : Type 0 where
  -- it is nearest, and no other is
  pub is : (q : Float) → Nearest (num q) (den q) (nearest_size q)
  pub only : (q : Float) (K : ℕ) → Nearest (num q) (den q) K → K ≡ nearest_size q
  -- the float is that whole number, with q's sign; a zero is +0
  pub value : (q : Float) → nearest_size q < 2 ^ 53 → Is 0 (nearest_whole q) (signed (sgn q) (nearest_size q))
  pub zero : (q : Float) → nearest_size q ≡ 0 → nearest_whole q ≡ zero_f
