-- The layouts of C, computed. Assumes nothing.
use mathlib.Core.Path.{refl}
use Rattle.c_call.specs.Known.{KnownLayouts}

pub known_layouts : KnownLayouts
known_layouts = record {
  responses = refl;
  a_jones_matrix = refl;
  jones_matrices = refl;
  a_mueller_matrix = refl;
  coated = refl;
  bare = refl;
  one_number = refl;
  two_numbers = refl;
  written_in_front = refl;
  too_short = refl;
  turned_back = refl;
}
