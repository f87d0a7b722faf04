-- `math_sqrt::low_product` meets its contract. Assumes nothing.
use Rattle.std.proofs.Common.{◌≡◌, ℕ, ◌+◌, ◌-◌, ◌*◌, ◌/◌, ◌%◌, ◌^◌, ◌<◌, ◌≤◌, sym, ap, ◌∙◌, mul-le-mul, arith}
use native.Mathlib.Nat.{mod-add-mod, add-mul-mod_self_right}
use Rattle.math_sqrt.proofs.low_product.Goals as goal

-- the halves of a number below 2 ^ 53
lower : (x : ℕ) → x % 2 ^ 32 ≤ 2 ^ 32 - 1
lower x = omega arith

upper : (x : ℕ) → x < 2 ^ 53 → x / 2 ^ 32 ≤ 2 ^ 21
upper x h = omega arith

-- the product of the upper halves is a multiple of 2 ^ 64
halves : (x y : ℕ) → ((x % 2 ^ 32 * (y / 2 ^ 32) + x / 2 ^ 32 * (y % 2 ^ 32)) * 2 ^ 32 % 2 ^ 64 + x % 2 ^ 32 * (y % 2 ^ 32)) % 2 ^ 64 ≡ x * y % 2 ^ 64
halves x y = go x (x % 2 ^ 32) (x / 2 ^ 32) y (y % 2 ^ 32) (y / 2 ^ 32) (whole x) (whole y)
  where
    whole : (x : ℕ) → x ≡ x / 2 ^ 32 * 2 ^ 32 + x % 2 ^ 32
    whole x = omega arith

    out : (x0 x1 y0 y1 : ℕ) → ((x0 * y1 + x1 * y0) * 2 ^ 32 % 2 ^ 64 + x0 * y0) % 2 ^ 64 ≡ (x1 * 2 ^ 32 + x0) * (y1 * 2 ^ 32 + y0) % 2 ^ 64
    out x0 x1 y0 y1 =
        mod-add-mod ((x0 * y1 + x1 * y0) * 2 ^ 32) (2 ^ 64) (x0 * y0)
        ∙ sym (add-mul-mod_self_right ((x0 * y1 + x1 * y0) * 2 ^ 32 + x0 * y0) (x1 * y1) (2 ^ 64))
        ∙ ap (λ (z : ℕ). z % 2 ^ 64) (expand x0 x1 y0 y1)
      where
        expand : (x0 x1 y0 y1 : ℕ) → (x0 * y1 + x1 * y0) * 2 ^ 32 + x0 * y0 + x1 * y1 * 2 ^ 64 ≡ (x1 * 2 ^ 32 + x0) * (y1 * 2 ^ 32 + y0)
        expand x0 x1 y0 y1 = omega arith

    go : (x x0 x1 y y0 y1 : ℕ) → x ≡ x1 * 2 ^ 32 + x0 → y ≡ y1 * 2 ^ 32 + y0 → ((x0 * y1 + x1 * y0) * 2 ^ 32 % 2 ^ 64 + x0 * y0) % 2 ^ 64 ≡ x * y % 2 ^ 64
    go x x0 x1 y y0 y1 e f = out x0 x1 y0 y1 ∙ ap (λ (z : ℕ). z * (y1 * 2 ^ 32 + y0) % 2 ^ 64) (sym e) ∙ ap (λ (z : ℕ). x * z % 2 ^ 64) (sym f)

pub overflow_mul-x0 : goal.overflow_mul-x0
overflow_mul-x0 c = omega (arith, mul-le-mul (lower c.args.x) (upper c.args.y c.requires.1))

pub overflow_mul-x1 : goal.overflow_mul-x1
overflow_mul-x1 c = omega (arith, mul-le-mul (upper c.args.x c.requires.0) (lower c.args.y))

pub overflow_add-x0 : goal.overflow_add-x0
overflow_add-x0 c = omega (arith, mul-le-mul (lower c.args.x) (upper c.args.y c.requires.1), mul-le-mul (upper c.args.x c.requires.0) (lower c.args.y))

pub overflow_mul-x0-2 : goal.overflow_mul-x0-2
overflow_mul-x0-2 c = omega (arith, mul-le-mul (lower c.args.x) (lower c.args.y))

pub returns : goal.returns
returns c = c.wrapping_add_u64.ensures.value ∙ halves c.args.x c.args.y
