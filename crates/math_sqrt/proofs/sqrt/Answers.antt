-- `math_sqrt::sqrt` meets its contract. Assumes nothing.
use Rattle.std.proofs.Common.{◌≡◌, true, T, sym, ap, ◌∙◌, subst}
use lib.Ieee.{Float, binary64, fits, to_bits, of_bits}
use lib.Ieee.Bits.{of_bits-to_bits}
use lib.Ieee.Positive.{above}
use Rattle.math_root.specs.Root.{square_root}
use Rattle.math_sqrt.proofs.Patterns.{above_pos, above_inf}
use Rattle.math_sqrt.proofs.Cases.{is_above, above_no_nan, root_inf, root_zero, root_none}
use Rattle.math_sqrt.proofs.Finish.{normal_root}
use Rattle.math_sqrt.proofs.sqrt.Goals as goal

-- what owning an `f64` tells: the format holds it, so its pattern stands for it
read_back : (x : Float) → fits binary64 x ≡ true → of_bits binary64 (to_bits binary64 x) ≡ x
read_back x e = of_bits-to_bits binary64 x (subst T (sym e) tt)

above_bits : (x : Float) → of_bits binary64 (to_bits binary64 x) ≡ x → T (above x) → T (above (of_bits binary64 (to_bits binary64 x)))
above_bits x e a = subst (λ (z : Float). T (above z)) (sym e) a

pub float_to_bits-bits : goal.float_to_bits-bits
float_to_bits-bits c = above_no_nan c.args.x (is_above c.args.x c.if-x.true)

pub subnormal_sqrt-requires : goal.subnormal_sqrt-requires
subnormal_sqrt-requires c =
    let x = c.args.x in
    (above_pos (to_bits binary64 x) (above_bits x (read_back c.args.x c.well_formed.0.1) (is_above x c.if-x.true)), c.if-bits-lt4503599627370496.true)

pub returns-then-bits-lt4503599627370496 : goal.returns-then-bits-lt4503599627370496
returns-then-bits-lt4503599627370496 c = c.subnormal_sqrt.ensures ∙ ap (square_root binary64) (read_back c.args.x c.well_formed.0.1)

pub returns-then-bits-lt9218868437227405312 : goal.returns-then-bits-lt9218868437227405312
returns-then-bits-lt9218868437227405312 c =
    c.normal_sqrt.ensures ∙ normal_root (to_bits binary64 c.args.x) c.if-bits-lt4503599627370496.false c.if-bits-lt9218868437227405312.true ∙ ap (square_root binary64) (read_back c.args.x c.well_formed.0.1)

pub returns-else-bits-lt9218868437227405312 : goal.returns-else-bits-lt9218868437227405312
returns-else-bits-lt9218868437227405312 c =
    let x = c.args.x in
    let e = read_back x c.well_formed.0.1 in
    root_inf x (sym e ∙ above_inf (to_bits binary64 x) (above_bits x e (is_above x c.if-x.true)) c.if-bits-lt9218868437227405312.false)

pub returns-then-x-2 : goal.returns-then-x-2
returns-then-x-2 c = root_zero c.args.x c.if-x-2.true

pub returns-else-x-2 : goal.returns-else-x-2
returns-else-x-2 c = root_none c.args.x c.if-x.false c.if-x-2.false
