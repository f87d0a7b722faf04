-- 01, The rest: ASCII bytes of a name. Definitions only.
use Rattle.std.specs.Prelude.{ℕ, ◌-◌, Bool, ◌&&◌, cond, List, leb}
use Rattle.name_bytes.specs.Trim.{prefix}

-- to_uppercase of an ASCII byte: a to z
abbrev pub upper_byte : ℕ → ℕ
upper_byte b = cond (leb 97 b && leb b 122) (b - 32) b

-- 0 to 127
abbrev pub ascii : ℕ → Bool
ascii b = leb b 127

-- the place of the first byte over 127; the length where there is none
abbrev pub first_over : List ℕ → ℕ
first_over s = prefix ascii s
