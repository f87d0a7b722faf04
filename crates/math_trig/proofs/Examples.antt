-- Some answers of sin and cos, computed by the checker. Assumes nothing.
use mathlib.Core.Path.{◌≡◌, refl}
use lib.Ieee.{binary64, neg, add, sub, mul, div, rem, lt, le, of_bits, to_bits, of_int}
use Rattle.ieee.specs.Functions.{zero_f, one, abs, clamp}
use Rattle.whole_nearest.specs.Nearest.{nearest_whole}
use Rattle.math_trig.specs.Angles.{pi, minus_pi}
use Rattle.math_trig.specs.Trig.{wrap, less_turns, reduce, first_line, fold, second_fold, series, sin_at, sin, cos_at, cos_of, cos}

sin_one : to_bits binary64 (sin one) ≡ 0x3FEA_ED54_8F09_0CEE
unfolding sin sin_at second_fold fold wrap first_line reduce less_turns nearest_whole le abs series clamp rem lt add sub mul div neg of_bits to_bits of_int
sin_one = refl

cos_one : to_bits binary64 (cos one) ≡ 0x3FE1_4A28_0FB5_068C
unfolding cos cos_of cos_at fold wrap first_line reduce less_turns nearest_whole le abs series clamp rem lt add sub mul div neg of_bits to_bits of_int
cos_one = refl

-- π folds onto +0, and so does -π
sin_pi : sin pi ≡ zero_f
unfolding sin sin_at second_fold fold wrap first_line reduce less_turns nearest_whole le abs series clamp rem lt add sub mul div neg of_bits of_int
sin_pi = refl

sin_minus_pi : sin minus_pi ≡ zero_f
unfolding sin sin_at second_fold fold wrap first_line reduce less_turns nearest_whole le abs series clamp rem lt add sub mul div neg of_bits of_int
sin_minus_pi = refl
