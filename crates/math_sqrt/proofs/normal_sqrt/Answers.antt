-- `math_sqrt::normal_sqrt` meets its contract. Assumes nothing.
use Rattle.std.proofs.Common.{◌≡◌, ℕ, ◌+◌, ◌-◌, ◌*◌, ◌/◌, ◌%◌, ◌^◌, ◌<◌, ◌≤◌, not, T, sym, ap, ◌∙◌, le_trans, le_of_eq, lt_of_le_of_lt, mul-le-mul, arith}
use lib.Ieee.{binary64, nan_bits, to_bits, of_bits}
use Rattle.ieee.proofs.Signs.{of_true}
use Rattle.math_root.specs.Root.{closest_root}
use Rattle.math_sqrt.specs.Steps.{radicand, root_bits, NearestBits}
use Rattle.math_sqrt.proofs.Cases.{is_above, above_no_nan, below_no_nan}
use Rattle.math_sqrt.proofs.Finish.{own_most, normal_root_lt}
use Rattle.math_sqrt.proofs.normal_sqrt.Goals as goal

abbrev part : ℕ → ℕ
part b = b % 2 ^ 53 + 0x3fe0_0000_0000_0000

same : (b : ℕ) → radicand (part b) ≡ radicand b
same b = ap (λ (t : ℕ). (t + 2 ^ 52) * (2 - part b / 2 ^ 52 % 2) * 2 ^ 52) (digits b) ∙ ap (λ (t : ℕ). (b % 2 ^ 52 + 2 ^ 52) * (2 - t) * 2 ^ 52) (parity b)
  where
    digits : (b : ℕ) → part b % 2 ^ 52 ≡ b % 2 ^ 52
    digits b = omega arith

    parity : (b : ℕ) → part b / 2 ^ 52 % 2 ≡ b / 2 ^ 52 % 2
    parity b = omega arith

moved : (b r q : ℕ) → r / 2 ^ 52 ≡ part b / 2 ^ 52 → q ≡ r % 2 ^ 52 + 2 ^ 52 → r + b / 2 ^ 52 / 2 * 2 ^ 52 - 0x1ff0_0000_0000_0000 ≡ (b / 2 ^ 52 + 1021) / 2 * 2 ^ 52 + q
moved b r q e f = omega arith

found : (b r : ℕ) → NearestBits (part b) r → r + b / 2 ^ 52 / 2 * 2 ^ 52 - 0x1ff0_0000_0000_0000 ≡ root_bits b
found b r v = moved b r (closest_root (radicand b) 1) v.field (ap (λ (n : ℕ). closest_root n 1) (sym (same b)) ∙ v.root)

-- between 1/2 and 2 nothing is moved
found_there : (b r : ℕ) → part b ≡ b → NearestBits (part b) r → r ≡ root_bits b
found_there b r e v = stays b r e ∙ found b r v
  where
    stays : (b r : ℕ) → part b ≡ b → r ≡ r + b / 2 ^ 52 / 2 * 2 ^ 52 - 0x1ff0_0000_0000_0000
    stays b r e = omega arith

twice : (b : ℕ) → (b % 2 ^ 52 + 2 ^ 52) * (2 - b / 2 ^ 52 % 2) ≤ (2 ^ 53 - 1) * 2
twice b = mul-le-mul (below b) (two b)
  where
    below : (b : ℕ) → b % 2 ^ 52 + 2 ^ 52 ≤ 2 ^ 53 - 1
    below b = omega arith

    two : (b : ℕ) → 2 - b / 2 ^ 52 % 2 ≤ 2
    two b = omega arith

-- a pattern that is the root's is no NaN's
no_nan : (b r : ℕ) → 2 ^ 52 ≤ b → b < 0x7ff0_0000_0000_0000 → r ≡ root_bits b → T (not (nan_bits binary64 r))
no_nan b r l h e = below_no_nan r (lt_of_le_of_lt (le_of_eq e) (normal_root_lt b l h))

pub float_from_bits-h : goal.float_from_bits-h
float_from_bits-h c = below_no_nan (part c.args.bits) (omega arith)

pub float_to_bits-root : goal.float_to_bits-root
float_to_bits-root c = above_no_nan c.second_guess-n.result (is_above c.second_guess-n.result c.if-n.true)

pub float_from_bits-result : goal.float_from_bits-result
float_from_bits-result c =
    no_nan c.args.bits (to_bits binary64 c.second_guess-n.result) c.requires.0 c.requires.1 (found_there c.args.bits (to_bits binary64 c.second_guess-n.result) c.if-part-bits.true (c.is_root.ensures (of_true c.is_root.result c.if-is_root.true)))

pub returns-then-part-bits : goal.returns-then-part-bits
returns-then-part-bits c = ap (of_bits binary64) (found_there c.args.bits (to_bits binary64 c.second_guess-n.result) c.if-part-bits.true (c.is_root.ensures (of_true c.is_root.result c.if-is_root.true)))

pub overflow_add-result : goal.overflow_add-result
overflow_add-result c = omega (arith, (c.is_root.ensures (of_true c.is_root.result c.if-is_root.true)).field)

pub overflow_sub-result : goal.overflow_sub-result
overflow_sub-result c = omega (arith, (c.is_root.ensures (of_true c.is_root.result c.if-is_root.true)).field)

pub float_from_bits-result-then-is_root : goal.float_from_bits-result-then-is_root
float_from_bits-result-then-is_root c =
    no_nan c.args.bits (to_bits binary64 c.second_guess-n.result + c.args.bits / 2 ^ 52 / 2 * 2 ^ 52 - 0x1ff0_0000_0000_0000) c.requires.0 c.requires.1 (found c.args.bits (to_bits binary64 c.second_guess-n.result) (c.is_root.ensures (of_true c.is_root.result c.if-is_root.true)))

pub returns-then-is_root : goal.returns-then-is_root
returns-then-is_root c = ap (of_bits binary64) (found c.args.bits (to_bits binary64 c.second_guess-n.result) (c.is_root.ensures (of_true c.is_root.result c.if-is_root.true)))

pub overflow_mul-d : goal.overflow_mul-d
overflow_mul-d c = omega (arith, twice c.args.bits)

pub nearest_by_digits-requires : goal.nearest_by_digits-requires
nearest_by_digits-requires c = omega (arith, twice c.args.bits)

pub overflow_add-result-3 : goal.overflow_add-result-3
overflow_add-result-3 c = omega (arith, le_trans (le_of_eq c.nearest_by_digits.ensures) (own_most c.args.bits))

pub float_from_bits-result-2 : goal.float_from_bits-result-2
float_from_bits-result-2 c =
    no_nan c.args.bits ((c.args.bits / 2 ^ 52 + 1021) / 2 * 2 ^ 52 + c.nearest_by_digits.result) c.requires.0 c.requires.1 (ap (λ (q : ℕ). (c.args.bits / 2 ^ 52 + 1021) / 2 * 2 ^ 52 + q) c.nearest_by_digits.ensures)

pub returns : goal.returns
returns c = ap (of_bits binary64) (ap (λ (q : ℕ). (c.args.bits / 2 ^ 52 + 1021) / 2 * 2 ^ 52 + q) c.nearest_by_digits.ensures)
