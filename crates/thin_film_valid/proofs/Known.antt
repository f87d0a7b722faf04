-- The responses of the ideal coatings, computed. Assumes nothing.
use mathlib.Core.Path.{refl}
use lib.Ieee.{neg, sub, lt, le, of_bits}
use Rattle.ieee.specs.Functions.{clamp}
use Rattle.math_root.specs.Root.{square_root}
use Rattle.thin_film_complex.specs.Complex.{real}
use Rattle.thin_film_solver.specs.Absorptance.{absorptance, with_absorptance}
use Rattle.thin_film_solver.specs.Solve.{rust_respond}
use Rattle.thin_film_valid.specs.Known.{KnownIdeals}

pub known_ideals : KnownIdeals
unfolding with_absorptance absorptance rust_respond real square_root clamp sub lt le neg of_bits
known_ideals = record { ar = refl; mirror = refl; beamsplitter = refl }
