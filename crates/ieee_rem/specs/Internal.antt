-- A finite f64 by its bit pattern: a whole number `digits` at a `place`, in units of 2 ^ -1074. Scaffolding: definitions only.
use Rattle.std.specs.Prelude.{ℕ, zero, suc, ◌+◌, ◌-◌, ◌*◌, ◌/◌, ◌%◌, ◌^◌, cond, leb, eqb}

-- the exponent's field, without the sign
abbrev pub field : ℕ → ℕ
field b = b % 2 ^ 63 / 2 ^ 52

abbrev pub digits : ℕ → ℕ
digits b = cond (eqb (field b) 0) (b % 2 ^ 52) (2 ^ 52 + b % 2 ^ 52)

abbrev pub place : ℕ → ℕ
place b = field b - 1

-- the pattern of r · 2 ^ j units, for an r below 2 ^ 53: moved up while it has no leading digit and there is room below
unfoldable pub pack : ℕ → ℕ → ℕ
pack r zero = r
pack r (suc j) = cond (leb (2 ^ 52) r) (suc j * 2 ^ 52 + r) (pack (r * 2) j)

-- the remainder of two finite patterns, the second no zero, whose place is no higher: a's sign, and the whole number that is left
unfoldable pub of_patterns : ℕ → ℕ → ℕ
of_patterns a b = a / 2 ^ 63 * 2 ^ 63 + pack (digits a * 2 ^ (place a - place b) % digits b) (place b)
