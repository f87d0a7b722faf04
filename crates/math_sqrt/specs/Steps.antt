-- What the functions on the way to a root say of their results. Definitions only.
use Rattle.std.specs.Prelude.{◌≡◌, ℕ, ◌+◌, ◌-◌, ◌*◌, ◌/◌, ◌%◌, ◌^◌, ◌≤◌}
use Rattle.math_root.specs.Root.{closest_root}

-- The pattern b of a normal number has 52 digits below a leading 1, and above them a field for the exponent. Where the field is odd the
-- digits, times 2 ^ 52, are the number times a power of 4,
-- and where it is even, twice that.
abbrev pub radicand : ℕ → ℕ
radicand b = (b % 2 ^ 52 + 2 ^ 52) * (2 - b / 2 ^ 52 % 2) * 2 ^ 52

-- the pattern of the root of a normal number: the root's leading digit adds 1 to the field
abbrev pub root_bits : ℕ → ℕ
root_bits b = (b / 2 ^ 52 + 1021) / 2 * 2 ^ 52 + closest_root (radicand b) 1

-- the float with the pattern r is the root of the one with the pattern b, and both are from 1/2 to 1, or both from 1 to 2
pub record NearestBits (b r : ℕ) : Type 0 where
  pub field : r / 2 ^ 52 ≡ b / 2 ^ 52
  pub root : closest_root (radicand b) 1 ≡ r % 2 ^ 52 + 2 ^ 52

-- two patterns with one exponent's field, and digits that are less than 1024 apart
pub record Close (a b : ℕ) : Type 0 where
  pub field : a / 2 ^ 52 ≡ b / 2 ^ 52
  pub above : a % 2 ^ 52 ≤ b % 2 ^ 52 + 1023
  pub below : b % 2 ^ 52 ≤ a % 2 ^ 52 + 1023

-- q is the root of n cut to a whole number, and r is what its square leaves
pub record Rooted (n q r : ℕ) : Type 0 where
  pub sum : q * q + r ≡ n
  pub small : r ≤ 2 * q
