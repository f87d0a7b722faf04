-- `math_sqrt::is_close` meets its contract. Assumes nothing.
use Rattle.std.proofs.Common.{◌≡◌, ℕ, ◌+◌, ◌/◌, ◌%◌, ◌^◌, ◌≤◌, arith, leb→le}
use Rattle.math_sqrt.specs.Steps.{Close}
use Rattle.math_sqrt.proofs.is_close.Goals as goal

-- of one block
block : (a b : ℕ) → a / 1024 ≡ b / 1024 → Close a b
block a b e = record { field = omega arith; above = omega arith; below = omega arith }

-- r is a + 512 less b, modulo 2 ^ 64
apart : (a b r : ℕ) → (r + b % 2 ^ 52) % 2 ^ 64 ≡ a % 2 ^ 52 + 512 → r ≤ 1024 → (a % 2 ^ 52 ≤ b % 2 ^ 52 + 1023) × (b % 2 ^ 52 ≤ a % 2 ^ 52 + 1023)
apart a b r e h = (omega arith, omega arith)

pub returns-then-a-b : goal.returns-then-a-b
returns-then-a-b c t = block c.args.a c.args.b c.if-a-b.true

pub returns-then-a-b-2 : goal.returns-then-a-b-2
returns-then-a-b-2 c t =
    let d = apart c.args.a c.args.b c.wrapping_sub_u64.result c.wrapping_sub_u64.ensures.value (leb→le _ _ t) in
    record { field = c.if-a-b-2.true; above = d.0; below = d.1 }
