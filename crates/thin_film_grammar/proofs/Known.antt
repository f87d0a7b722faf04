-- The known readings, computed. Assumes nothing.
use mathlib.Core.Path.{refl}
use Rattle.thin_film_grammar.specs.Reading.{counted, ended, read_from, reading}
use Rattle.thin_film_grammar.specs.Known.{KnownReadings}

pub known_readings : KnownReadings
unfolding reading read_from ended counted
known_readings = record {
  mirror = refl;
  doubles = refl;
  highest = refl;
  neighbours = refl;
  spaces = refl;
  numbers_apart = refl;
  touching = refl;
  number_with_a_space = refl;
  hundred = refl;
  leading_zero = refl;
  number_before_a_bracket = refl;
  empty_bracket = refl;
  two_powers = refl;
  fifth_bracket = refl;
  lower_case = refl;
  tab = refl;
  nothing = refl;
  blanks = refl;
  unclosed = refl;
  number_alone = refl;
  no_power = refl;
  sixty_four = refl;
  sixty_five = refl;
  nine_first = refl;
}
