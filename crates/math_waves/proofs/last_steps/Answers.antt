-- `math_waves::last_steps` meets its contract. Assumes nothing.
use lib.Ieee.{Float, of_int, of_bits}
use Rattle.ieee_quotient.specs.Quick.{whole}
use Rattle.math_waves.specs.Internal.{step, by_132, by_72, by_20, by_12, by_6, last_sin, last_cos}
use Rattle.math_waves.proofs.Steps.{after, and_then}
use Rattle.math_waves.proofs.last_steps.Goals as goal

-- the steps so far
abbrev sin_2 : Float → Float → Float
sin_2 = after by_72 (step (whole 110))

abbrev sin_3 : Float → Float → Float
sin_3 = after (step (whole 42)) sin_2

abbrev sin_4 : Float → Float → Float
sin_4 = after by_20 sin_3

abbrev cos_2 : Float → Float → Float
cos_2 = after (step (whole 90)) by_132

abbrev cos_3 : Float → Float → Float
cos_3 = after (step (whole 56)) cos_2

abbrev cos_4 : Float → Float → Float
cos_4 = after (step (whole 30)) cos_3

abbrev cos_5 : Float → Float → Float
cos_5 = after by_12 cos_4

pub returns : goal.returns
unfolding last_sin last_cos of_int of_bits
returns c =
    let a = c.args in
    let s2 = and_then (step (whole 110)) by_72 a.z.now a.s.now _ _ a.n c.step.ensures c.quick_step-2.ensures in
    let s3 = and_then sin_2 (step (whole 42)) a.z.now a.s.now _ _ a.n s2 c.step-4.ensures in
    let s4 = and_then sin_3 by_20 a.z.now a.s.now _ _ a.n s3 c.quick_step-3.ensures in
    let s5 = and_then sin_4 by_6 a.z.now a.s.now _ _ a.n s4 c.quick_step-5.ensures in
    let d = and_then by_132 (step (whole 90)) a.z.now a.c.now _ _ a.n c.quick_step.ensures c.step-2.ensures in
    let d = and_then cos_2 (step (whole 56)) a.z.now a.c.now _ _ a.n d c.step-3.ensures in
    let d = and_then cos_3 (step (whole 30)) a.z.now a.c.now _ _ a.n d c.step-5.ensures in
    let d = and_then cos_4 by_12 a.z.now a.c.now _ _ a.n d c.quick_step-4.ensures in
    let d = and_then cos_5 (step (whole 2)) a.z.now a.c.now _ _ a.n d c.step-6.ensures in
    (s5, d)
