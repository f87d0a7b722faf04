-- A subnormal's digits, moved up by their leading zeros, and the number that `scaled` makes of a pattern. Assumes nothing.
use Rattle.std.proofs.Common.{◌≡◌, ℕ, suc, ◌+◌, ◌-◌, ◌*◌, ◌/◌, ◌%◌, ◌^◌, ◌<◌, ◌≤◌, Bool, false, sym, ap, ◌∙◌, subst, le_trans, le_of_eq, lt_of_le_of_lt, mul-le-mul_right, mod-eq_of_lt, mul_assoc, mul_right_comm, arith, pow-add, shl_lt}
use lib.Count.{count_leading_zeros, leading_top}
use lib.Ieee.{Float, nan, inf, fin, binary64, low, up, down, of_bits}
use lib.Ieee.Exact.{HasValue}
use Rattle.ieee.proofs.Range.Values.{pow_lt_back}
use Rattle.math_sqrt.proofs.Patterns.{subnormal, normal}

-- The pattern b stands for d * 2 ^ f / 2 ^ 2148, and d has 53 binary digits. 2 ^ -1074 is the smallest positive value, and 2148 is twice 1074.
pub record Normal (b d f : ℕ) : Type 0 where
  pub least : 2 ^ 52 ≤ d
  pub below : d < 2 ^ 53
  pub from : 1022 ≤ f
  pub to : f ≤ 3119
  pub value : HasValue (of_bits binary64 b) false (d * 2 ^ f) (2 ^ low binary64 * 2 ^ low binary64)

-- a fraction with both parts multiplied by d
pub rescale : (x : Float) (s : Bool) (a c d : ℕ) → HasValue x s a c → HasValue x s (a * d) (c * d)
rescale nan s a c d v = v
rescale (inf t) s a c d v = v
rescale (fin t m e) s a c d v =
    (v.0, sym (mul_assoc (m * up e) c d) ∙ ap (λ (x : ℕ). x * d) v.1 ∙ mul_right_comm a (down e) d)

-- how far up the digits of b go: z is the number of leading zeros of b, in 64 digits
pub record Lifted (b z : ℕ) : Type 0 where
  pub from : 11 ≤ z
  pub to : z - 11 ≤ 52
  pub least : 2 ^ 52 ≤ b * 2 ^ (z - 11)
  pub below : b * 2 ^ (z - 11) < 2 ^ 53

pub lifted : (b : ℕ) → 0 < b → b < 2 ^ 52 → Lifted b (count_leading_zeros 64 b)
lifted b p h =
    let z = count_leading_zeros 64 b in
    let t = leading_top 64 b p (wide b h) in
    let j = t.0 in
    let l : j < 52 = pow_lt_back j 52 (lt_of_le_of_lt t.2 h) in
    let e : 52 ≡ j + (z - 11) = split z j t.1 l in
    let f : 53 ≡ suc j + (z - 11) = split' z j t.1 l in
    record {
      from = from z j t.1 l;
      to = to z j t.1 l;
      least = le_trans (le_of_eq (ap (λ (x : ℕ). 2 ^ x) e ∙ pow-add 2 j (z - 11))) (mul-le-mul_right (2 ^ (z - 11)) t.2);
      below = subst (λ (x : ℕ). b * 2 ^ (z - 11) < 2 ^ x) (sym f) (shl_lt (suc j) (z - 11) t.3);
    }
  where
    wide : (b : ℕ) → b < 2 ^ 52 → b < 2 ^ 64
    wide b h = omega arith

    from : (z j : ℕ) → z + suc j ≡ 64 → j < 52 → 11 ≤ z
    from z j e l = omega arith

    to : (z j : ℕ) → z + suc j ≡ 64 → j < 52 → z - 11 ≤ 52
    to z j e l = omega arith

    split : (z j : ℕ) → z + suc j ≡ 64 → j < 52 → 52 ≡ j + (z - 11)
    split z j e l = omega arith

    split' : (z j : ℕ) → z + suc j ≡ 64 → j < 52 → 53 ≡ suc j + (z - 11)
    split' z j e l = omega arith

-- `digits << up` loses nothing
kept : (b u : ℕ) → b * 2 ^ u < 2 ^ 53 → (b * 2 ^ u) % 2 ^ 64 ≡ b * 2 ^ u
kept b u h = mod-eq_of_lt (wide (b * 2 ^ u) h)
  where
    wide : (x : ℕ) → x < 2 ^ 53 → x < 2 ^ 64
    wide x h = omega arith

pub from_subnormal : (b : ℕ) → 0 < b → b < 2 ^ 52 → Normal b ((b * 2 ^ (count_leading_zeros 64 b - 11)) % 2 ^ 64) (1074 - (count_leading_zeros 64 b - 11))
from_subnormal b p h =
    let v = lifted b p h in
    let u = count_leading_zeros 64 b - 11 in
    let e : b * 2 ^ low binary64 ≡ b * 2 ^ u * 2 ^ (1074 - u) =
    ap (λ (x : ℕ). b * 2 ^ x) (split u v.to) ∙ ap (λ (x : ℕ). b * x) (pow-add 2 u (1074 - u)) ∙ sym (mul_assoc b (2 ^ u) (2 ^ (1074 - u))) in
    subst (λ (d : ℕ). Normal b d (1074 - u)) (sym (kept b u v.below))
    (record {
      least = v.least;
      below = v.below;
      from = at_least u v.to;
      to = at_most u;
      value = subst (λ (x : ℕ). HasValue (of_bits binary64 b) false x (2 ^ low binary64 * 2 ^ low binary64)) e (rescale (of_bits binary64 b) false b (2 ^ low binary64) (2 ^ low binary64) (subnormal b h));
    })
  where
    split : (u : ℕ) → u ≤ 52 → 1074 ≡ u + (1074 - u)
    split u h = omega arith

    at_least : (u : ℕ) → u ≤ 52 → 1022 ≤ 1074 - u
    at_least u h = omega arith

    at_most : (u : ℕ) → 1074 - u ≤ 3119
    at_most u = omega arith

pub from_normal : (b : ℕ) → 2 ^ 52 ≤ b → b < 0x7ff0_0000_0000_0000 → Normal b (b % 2 ^ 52 + 2 ^ 52) (b / 2 ^ 52 + 1073)
from_normal b h k =
    let x = b / 2 ^ 52 - 1 in
    let t = b % 2 ^ 52 in
    let e : (2 ^ 52 + t) * 2 ^ x * 2 ^ low binary64 ≡ (t + 2 ^ 52) * 2 ^ (b / 2 ^ 52 + 1073) =
    mul_assoc (2 ^ 52 + t) (2 ^ x) (2 ^ low binary64) ∙ ap (λ (y : ℕ). (2 ^ 52 + t) * y) (sym (pow-add 2 x (low binary64)) ∙ ap (λ (y : ℕ). 2 ^ y) (joined b h)) ∙ ap (λ (y : ℕ). y * 2 ^ (b / 2 ^ 52 + 1073)) (turned t) in
    record {
      least = least t;
      below = below b;
      from = from b;
      to = to b k;
      value = subst (λ (y : ℕ). HasValue (of_bits binary64 b) false y (2 ^ low binary64 * 2 ^ low binary64)) e (rescale (of_bits binary64 b) false ((2 ^ 52 + t) * 2 ^ x) (2 ^ low binary64) (2 ^ low binary64) (normal b h k));
    }
  where
    joined : (b : ℕ) → 2 ^ 52 ≤ b → b / 2 ^ 52 - 1 + 1074 ≡ b / 2 ^ 52 + 1073
    joined b h = omega arith

    turned : (t : ℕ) → 2 ^ 52 + t ≡ t + 2 ^ 52
    turned t = omega arith

    least : (t : ℕ) → 2 ^ 52 ≤ t + 2 ^ 52
    least t = omega arith

    below : (b : ℕ) → b % 2 ^ 52 + 2 ^ 52 < 2 ^ 53
    below b = omega arith

    from : (b : ℕ) → 1022 ≤ b / 2 ^ 52 + 1073
    from b = omega arith

    to : (b : ℕ) → b < 0x7ff0_0000_0000_0000 → b / 2 ^ 52 + 1073 ≤ 3119
    to b k = omega arith
