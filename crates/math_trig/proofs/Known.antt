-- sin and cos at some angles, computed. Assumes nothing.
use mathlib.Core.Path.{refl}
use lib.Ieee.{neg, add, sub, mul, div, rem, lt, le, of_bits, of_int}
use Rattle.ieee.specs.Functions.{abs, clamp}
use Rattle.whole_nearest.specs.Nearest.{nearest_whole}
use Rattle.math_trig.specs.Trig.{wrap, less_turns, reduce, first_line, fold, second_fold, series, sin_at, sin, cos_at, cos_of, cos}
use Rattle.math_trig.specs.Known.{KnownSines}

pub known_sines : KnownSines
unfolding sin sin_at cos cos_of cos_at second_fold fold wrap first_line reduce less_turns nearest_whole series clamp abs rem lt le add sub mul div neg of_bits of_int
known_sines = record { ten_terms = refl; eleven_terms = refl; folded_sine = refl; folded_cosine = refl }
