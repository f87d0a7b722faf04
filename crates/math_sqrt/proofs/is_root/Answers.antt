-- `math_sqrt::is_root` meets its contract (`proofs/Product.antt`). Assumes nothing.
use Rattle.std.proofs.Common.{◌≡◌, ℕ, ◌+◌, ◌-◌, ◌*◌, ◌/◌, ◌%◌, ◌^◌, ◌≤◌, subst, mul-le-mul, arith, ltb→lt}
use Rattle.ieee.proofs.Signs.{of_true}
use Rattle.math_sqrt.specs.Steps.{radicand}
use Rattle.math_sqrt.proofs.Cases.{below_no_nan}
use Rattle.math_sqrt.proofs.Product.{tested, product_no_nan}
use Rattle.math_sqrt.proofs.is_root.Goals as goal

twice : (b : ℕ) → (b % 2 ^ 52 + 2 ^ 52) * (2 - b / 2 ^ 52 % 2) ≤ 2 ^ 53 * 2
twice b = mul-le-mul (below b) (two b)
  where
    below : (b : ℕ) → b % 2 ^ 52 + 2 ^ 52 ≤ 2 ^ 53
    below b = omega arith

    two : (b : ℕ) → 2 - b / 2 ^ 52 % 2 ≤ 2
    two b = omega arith

pub float_from_bits-n : goal.float_from_bits-n
float_from_bits-n c = below_no_nan c.args.root (omega arith)

pub float_to_bits-n : goal.float_to_bits-n
float_to_bits-n c = product_no_nan c.args.root (omega arith) (omega arith)

pub overflow_mul-d : goal.overflow_mul-d
overflow_mul-d c = omega (arith, twice c.args.bits)

pub returns-then-is_close : goal.returns-then-is_close
returns-then-is_close c t =
    tested c.args.bits c.args.root c.wrapping_sub_u64-over.result c.wrapping_sub_u64.result c.requires.0 c.requires.1 c.requires.2 (c.is_close.ensures (of_true _ c.if-is_close.true))
    (subst (λ (z : ℕ). (c.wrapping_sub_u64-over.result + z) % 2 ^ 64 ≡ radicand c.args.bits % 2 ^ 64) c.low_product.ensures c.wrapping_sub_u64-over.ensures.value) c.wrapping_sub_u64.ensures.value (ltb→lt _ _ t)
