-- `math_waves::first_steps` meets its contract. Assumes nothing.
use lib.Ieee.{Float, of_int, of_bits}
use Rattle.ieee_quotient.specs.Quick.{whole}
use Rattle.math_waves.specs.Internal.{step, by_272, first_sin, first_cos}
use Rattle.math_waves.proofs.Steps.{after, and_then}
use Rattle.math_waves.proofs.first_steps.Goals as goal

-- the steps so far
abbrev sin_2 : Float → Float → Float
sin_2 = after (step (whole 342)) (step (whole 420))

abbrev sin_3 : Float → Float → Float
sin_3 = after by_272 sin_2

abbrev sin_4 : Float → Float → Float
sin_4 = after (step (whole 210)) sin_3

abbrev cos_2 : Float → Float → Float
cos_2 = after (step (whole 380)) (step (whole 462))

abbrev cos_3 : Float → Float → Float
cos_3 = after (step (whole 306)) cos_2

abbrev cos_4 : Float → Float → Float
cos_4 = after (step (whole 240)) cos_3

pub returns : goal.returns
unfolding first_sin first_cos of_int of_bits
returns c =
    let a = c.args in
    let s2 = and_then (step (whole 420)) (step (whole 342)) a.z.now a.s.now _ _ a.n c.step-2.ensures c.step-4.ensures in
    let s3 = and_then sin_2 by_272 a.z.now a.s.now _ _ a.n s2 c.quick_step.ensures in
    let s4 = and_then sin_3 (step (whole 210)) a.z.now a.s.now _ _ a.n s3 c.step-7.ensures in
    let s5 = and_then sin_4 (step (whole 156)) a.z.now a.s.now _ _ a.n s4 c.step-9.ensures in
    let d = and_then (step (whole 462)) (step (whole 380)) a.z.now a.c.now _ _ a.n c.step.ensures c.step-3.ensures in
    let d = and_then cos_2 (step (whole 306)) a.z.now a.c.now _ _ a.n d c.step-5.ensures in
    let d = and_then cos_3 (step (whole 240)) a.z.now a.c.now _ _ a.n d c.step-6.ensures in
    let d = and_then cos_4 (step (whole 182)) a.z.now a.c.now _ _ a.n d c.step-8.ensures in
    (s5, d)
