-- The premises can be met: 1 rad is faced, 2 rad and -100,000 rad are averted. Assumes nothing.
use lib.Ieee.{Float, binary64, fits, neg, add, sub, mul, div, lt, eq, le, of_bits, of_int}
use Rattle.ieee.specs.Functions.{one, two, abs}
use Rattle.whole_nearest.specs.Nearest.{nearest_whole}
use Rattle.math_trig.specs.Trig.{less_turns, reduce}
use Rattle.trig_near.specs.Claim.{Facing, Averted}

-- -100,000
abbrev pub many : Float
many = of_bits binary64 0xC0F8_6A00_0000_0000

pub faced : Facing one
unfolding reduce less_turns nearest_whole abs lt eq le add sub mul div neg of_bits of_int fits
faced = record { thick = record { held = tt; most = tt }; rest = tt }

pub averted : Averted two
unfolding reduce less_turns nearest_whole abs lt eq le add sub mul div neg of_bits of_int fits
averted = record { thick = record { held = tt; most = tt }; rest = tt }

pub averted_with_turns : Averted many
unfolding reduce less_turns nearest_whole abs lt eq le add sub mul div neg of_bits of_int fits
averted_with_turns = record { thick = record { held = tt; most = tt }; rest = tt }
