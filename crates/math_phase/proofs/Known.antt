-- The known answers, computed. Assumes nothing.
use mathlib.Core.Path.{refl}
use lib.Dec.{lit≤}
use lib.Ieee.{neg, add, sub, mul, div, rem, lt, le, of_bits, of_int}
use Rattle.ieee.specs.Functions.{abs, clamp}
use Rattle.ieee.specs.Count.{count}
use Rattle.whole_nearest.specs.Nearest.{nearest_whole}
use Rattle.math_trig.specs.Trig.{wrap, less_turns, reduce, first_line, fold, second_fold, series, sin_at, sin, cos_at, cos_of, cos}
use Rattle.math_phase.specs.Known.{KnownPhase}

pub known_phase : KnownPhase
unfolding sin sin_at cos cos_of cos_at second_fold fold wrap first_line reduce less_turns nearest_whole series clamp abs count rem lt le add sub mul div neg of_bits of_int
known_phase = record {
  turn = refl;
  half_turn = refl;
  three_halves = refl;
  minus_zero = refl;
  limit = refl;
  minus_limit = refl;
  beyond = refl;
  sine = refl;
  cosine = refl;
  drift = lit≤ tt;
}
