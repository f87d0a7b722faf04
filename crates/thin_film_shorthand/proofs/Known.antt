-- The layers of a text, computed. Assumes nothing.
use mathlib.Core.Path.{refl}
use lib.Ieee.{mul, div, lt, le, of_bits, of_int}
use Rattle.ieee.specs.Functions.{finite_positive}
use Rattle.thin_film_grammar.specs.Reading.{counted, ended, read_from, reading}
use Rattle.thin_film_solver.specs.Solve.{dielectric}
use Rattle.thin_film_shorthand.specs.Stack.{valid, layer, stack}
use Rattle.thin_film_shorthand.specs.Known.{KnownStacks}

pub known_stacks : KnownStacks
unfolding stack valid layer finite_positive reading read_from ended counted dielectric lt le mul div of_bits of_int
known_stacks = record { layers = refl; zero_index = refl; wrong_text = refl; infinite_wavelength = refl }
