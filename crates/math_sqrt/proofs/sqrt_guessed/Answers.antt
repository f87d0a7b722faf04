-- `math_sqrt::sqrt_guessed` meets its contract: a guess that passes the test is the root. Assumes nothing.
use Rattle.std.proofs.Common.{◌≡◌, ℕ, ◌+◌, ◌*◌, ◌/◌, ◌%◌, ◌^◌, ◌<◌, ◌≤◌, true, not, T, sym, ap, ◌∙◌, subst, arith}
use lib.Ieee.{Float, binary64, le, is_nan, fits, to_bits, of_bits}
use lib.Ieee.Bits.{of_bits-to_bits}
use Rattle.ieee.proofs.Signs.{of_true}
use Rattle.math_root.specs.Root.{square_root, closest_root}
use Rattle.math_sqrt.specs.Steps.{radicand, NearestBits}
use Rattle.math_sqrt.proofs.Cases.{above_no_nan}
use Rattle.math_sqrt.proofs.Patterns.{half, half_above, half_least}
use Rattle.math_sqrt.proofs.Finish.{normal_root}
use Rattle.math_sqrt.proofs.sqrt_guessed.Goals as goal

-- between 1/2 and 2 the root's pattern is the guess's
passed : (b r : ℕ) → 0x3fe0_0000_0000_0000 ≤ b → b < 0x4000_0000_0000_0000 → NearestBits b r → of_bits binary64 r ≡ square_root binary64 (of_bits binary64 b)
passed b r l h v = ap (of_bits binary64) (joined b r (closest_root (radicand b) 1) l h v.field v.root) ∙ normal_root b (omega arith) (omega arith)
  where
    joined : (b r q : ℕ) → 0x3fe0_0000_0000_0000 ≤ b → b < 0x4000_0000_0000_0000 → r / 2 ^ 52 ≡ b / 2 ^ 52 → q ≡ r % 2 ^ 52 + 2 ^ 52 → r ≡ (b / 2 ^ 52 + 1021) / 2 * 2 ^ 52 + q
    joined b r q l h e f = omega arith

-- the pattern of a value that the format holds stands for it
read_back : (x : Float) → fits binary64 x ≡ true → of_bits binary64 (to_bits binary64 x) ≡ x
read_back x e = of_bits-to_bits binary64 x (of_true (fits binary64 x) e)

-- a value from 1/2 on
least : (x : Float) → fits binary64 x ≡ true → le half x ≡ true → 0x3fe0_0000_0000_0000 ≤ to_bits binary64 x
least x e t = half_least (to_bits binary64 x) (subst (λ (z : Float). T (le half z)) (sym (read_back x e)) (of_true (le half x) t))

no_nan : (x : Float) → le half x ≡ true → T (not (is_nan x))
no_nan x t = above_no_nan x (half_above x (of_true (le half x) t))

pub float_to_bits-bits : goal.float_to_bits-bits
float_to_bits-bits c = no_nan c.args.x c.if-x.true

pub float_to_bits-root : goal.float_to_bits-root
float_to_bits-root c = no_nan c.args.n c.if-n.true

pub is_root-requires : goal.is_root-requires
is_root-requires c =
    (least c.args.x c.well_formed.0.1 c.if-x.true, c.if-bits-lt4611686018427387904.true, c.if-root-bits.true)

pub returns-then-is_root : goal.returns-then-is_root
returns-then-is_root c =
    sym (read_back c.args.n c.well_formed.1.0.1) ∙ passed _ _ (least c.args.x c.well_formed.0.1 c.if-x.true) c.if-bits-lt4611686018427387904.true (c.is_root.ensures (of_true c.is_root.result c.if-is_root.true)) ∙ ap (square_root binary64) (read_back c.args.x c.well_formed.0.1)
