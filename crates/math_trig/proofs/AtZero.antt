-- Sine and cosine of a zero of either sign. Assumes nothing.
use mathlib.Core.Path.{◌≡◌, refl}
use mathlib.Core.Bool.{Bool, true, false}
use lib.IntN.{pos}
use lib.Ieee as Ieee
use lib.Ieee.{fin, of_bits}
use Rattle.ieee.specs.Functions.{one, abs, clamp}
use Rattle.whole_nearest.specs.Nearest.{nearest_whole}
use Rattle.math_trig.specs.Trig.{wrap, less_turns, reduce, first_line, fold, second_fold, series, sin_at, sin, cos_at, cos_of, cos}

pub cos_zero : (s : Bool) → cos (fin s 0 (pos 0)) ≡ one
unfolding nearest_whole wrap less_turns reduce first_line fold series cos_at cos_of cos abs clamp Ieee.rem Ieee.lt Ieee.le Ieee.eq Ieee.add Ieee.sub Ieee.mul Ieee.div Ieee.neg Ieee.of_int of_bits
cos_zero false = refl
cos_zero true = refl

pub sin_zero : (s : Bool) → sin (fin s 0 (pos 0)) ≡ fin s 0 (pos 0)
unfolding nearest_whole wrap less_turns reduce first_line fold second_fold series sin_at sin abs clamp Ieee.rem Ieee.lt Ieee.le Ieee.eq Ieee.add Ieee.sub Ieee.mul Ieee.div Ieee.neg Ieee.of_int of_bits
sin_zero false = refl
sin_zero true = refl
