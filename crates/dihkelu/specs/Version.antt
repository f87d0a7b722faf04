-- The library's version, as include/dihkelu.h has it. Definitions only.
use Rattle.std.specs.Prelude.{ℕ, ◌+◌, ◌*◌, ◌^◌}

-- 0.4: major × 2^16 + minor
abbrev pub version : ℕ
version = 0 * 2 ^ 16 + 4
