-- `math_sqrt::subnormal_sqrt` meets its contract (`proofs/Lift.antt`, `proofs/Finish.antt`). Assumes nothing.
use Rattle.std.proofs.Common.{◌≡◌, ℕ, ◌-◌, ◌*◌, ◌^◌, ◌<◌, ◌≤◌, Bool, not, T, sym, ap, ◌∙◌, subst, arith}
use lib.Ieee.{Float, binary64, is_nan, to_bits, of_bits}
use lib.Ieee.Bits.{to_bits-of_bits, nan_bits_is}
use Rattle.math_sqrt.specs.Steps.{root_bits}
use Rattle.math_sqrt.proofs.Lift.{lifted, from_subnormal}
use Rattle.math_sqrt.proofs.Cases.{below_no_nan}
use Rattle.math_sqrt.proofs.Finish.{lift, normal_root_lt, subnormal_root}
use Rattle.math_sqrt.proofs.subnormal_sqrt.Goals as goal

-- the lifted pattern is a normal number's, and so is its root's
lift_least : (b : ℕ) → 0 < b → b < 2 ^ 52 → 2 ^ 52 ≤ lift b
lift_least b l h = omega (arith, (from_subnormal b l h).least)

lift_most : (b : ℕ) → 0 < b → b < 2 ^ 52 → lift b < 0x7ff0_0000_0000_0000
lift_most b l h = omega (arith, (from_subnormal b l h).below)

root_no_nan : (b : ℕ) (r : Float) → 0 < b → b < 2 ^ 52 → r ≡ of_bits binary64 (root_bits (lift b)) → T (not (is_nan r))
root_no_nan b r l h e =
    subst (λ (x : Float). T (not (is_nan x))) (sym e)
    (subst (λ (t : Bool). T (not t)) (nan_bits_is binary64 (root_bits (lift b))) (below_no_nan (root_bits (lift b)) (normal_root_lt (lift b) (lift_least b l h) (lift_most b l h))))

root_is : (b : ℕ) (r : Float) → 0 < b → b < 2 ^ 52 → r ≡ of_bits binary64 (root_bits (lift b)) → to_bits binary64 r ≡ root_bits (lift b)
root_is b r l h e =
    ap (to_bits binary64) e
    ∙ to_bits-of_bits binary64 (root_bits (lift b)) (wide (root_bits (lift b)) (normal_root_lt (lift b) (lift_least b l h) (lift_most b l h))) (subst (λ (x : Float). T (not (is_nan x))) e (root_no_nan b r l h e))
  where
    wide : (r : ℕ) → r < 0x7ff0_0000_0000_0000 → r < 2 ^ 64
    wide r h = omega arith

pub overflow_sub-up : goal.overflow_sub-up
overflow_sub-up c = (lifted c.args.bits c.requires.0 c.requires.1).from

pub overflow_cast-lifted : goal.overflow_cast-lifted
overflow_cast-lifted c = omega (arith, (lifted c.args.bits c.requires.0 c.requires.1).to)

pub overflow_shl-lifted : goal.overflow_shl-lifted
overflow_shl-lifted c = omega (arith, (lifted c.args.bits c.requires.0 c.requires.1).to)

pub overflow_cast-lifted-2 : goal.overflow_cast-lifted-2
overflow_cast-lifted-2 c = omega (arith, (lifted c.args.bits c.requires.0 c.requires.1).to)

pub overflow_sub-lifted : goal.overflow_sub-lifted
overflow_sub-lifted c = omega (arith, (lifted c.args.bits c.requires.0 c.requires.1).to)

pub overflow_add-lifted : goal.overflow_add-lifted
overflow_add-lifted c = omega (arith, (from_subnormal c.args.bits c.requires.0 c.requires.1).below)

pub normal_sqrt-root-requires : goal.normal_sqrt-root-requires
normal_sqrt-root-requires c = (lift_least c.args.bits c.requires.0 c.requires.1, lift_most c.args.bits c.requires.0 c.requires.1)

pub float_to_bits-root : goal.float_to_bits-root
float_to_bits-root c = root_no_nan c.args.bits c.normal_sqrt-root.result c.requires.0 c.requires.1 c.normal_sqrt-root.ensures

pub overflow_sub-result : goal.overflow_sub-result
overflow_sub-result c = omega (arith, root_is c.args.bits c.normal_sqrt-root.result c.requires.0 c.requires.1 c.normal_sqrt-root.ensures)

pub float_from_bits-result : goal.float_from_bits-result
float_from_bits-result c =
    let b = c.args.bits in
    below_no_nan (to_bits binary64 c.normal_sqrt-root.result - 54 * 2 ^ 52) (omega (arith, root_is c.args.bits c.normal_sqrt-root.result c.requires.0 c.requires.1 c.normal_sqrt-root.ensures, normal_root_lt (lift b) (lift_least b c.requires.0 c.requires.1) (lift_most b c.requires.0 c.requires.1)))

pub returns : goal.returns
returns c = ap (λ (r : ℕ). of_bits binary64 (r - 54 * 2 ^ 52)) (root_is c.args.bits c.normal_sqrt-root.result c.requires.0 c.requires.1 c.normal_sqrt-root.ensures) ∙ subnormal_root c.args.bits c.requires.0 c.requires.1
