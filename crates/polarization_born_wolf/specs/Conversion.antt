-- The Mueller matrix of a Jones matrix, from Stokes vectors with S3 = 2·Im(Ex*·Ey) (02, slip 8). Definitions only.
use Rattle.std.specs.Prelude.{List, [], ◌∷◌, ◌++◌, Float}
use Rattle.std.specs.Float.Ieee.{neg}
use Rattle.ieee.specs.Operators.{◌⊖◌, ◌⊗◌}
use Rattle.ieee.specs.Functions.{zero_f, one, quarter}
use Rattle.thin_film_complex.specs.declared.Complex.{Complex}
use Rattle.polarization_stokes.specs.declared.StokesVector.{StokesVector}
use Rattle.polarization_stokes.specs.Jones.{to_stokes}
use Rattle.polarization_mueller.specs.declared.JonesMatrix.{JonesMatrix}
use Rattle.polarization_mueller.specs.declared.MuellerMatrix.{MuellerMatrix}
use Rattle.polarization_mueller.specs.Jones.{apply}
use Rattle.polarization_mueller.specs.Mueller.{mean, half_gap}

-- x + i y, with x and y as they are
abbrev pub complex : Float → Float → Complex
complex x y = record { re = x; im = y }

-- the Stokes vector of the beam that (Ex, Ey) becomes
unfoldable pub transformed : JonesMatrix → Complex → Complex → StokesVector
transformed j ex ey = to_stokes (apply j (record { ex = ex; ey = ey }))

-- a quarter of the difference, first less second
abbrev pub quarter_gap : Float → Float → Float
quarter_gap x y = quarter ⊗ (x ⊖ y)

-- "Columns one and two are half the sum and half the difference of those of the beams that (1, 0) and (0, 1) become. Columns three and
-- four are a quarter of the difference for (1, 1) and (1, -1), and for (1, i) and (1, -i)": a row has one Stokes parameter of all six
abbrev pub row : (x y plus minus plus_i minus_i : Float) → List Float
row x y plus minus plus_i minus_i = mean x y ∷ half_gap x y ∷ quarter_gap plus minus ∷ quarter_gap plus_i minus_i ∷ []

unfoldable pub from_six : (x y plus minus plus_i minus_i : StokesVector) → MuellerMatrix
from_six x y plus minus plus_i minus_i = record {
  m =
      row x.s0 y.s0 plus.s0 minus.s0 plus_i.s0 minus_i.s0
      ++ row x.s1 y.s1 plus.s1 minus.s1 plus_i.s1 minus_i.s1
      ++ row x.s2 y.s2 plus.s2 minus.s2 plus_i.s2 minus_i.s2
      ++ row x.s3 y.s3 plus.s3 minus.s3 plus_i.s3 minus_i.s3;
}

-- "parts not named are +0"
unfoldable pub to_mueller_born_wolf : JonesMatrix → MuellerMatrix
to_mueller_born_wolf j =
    let naught = complex zero_f zero_f in
    let unit = complex one zero_f in
    from_six (transformed j unit naught) (transformed j naught unit)
    (transformed j unit unit) (transformed j unit (complex (neg one) zero_f))
    (transformed j unit (complex zero_f one)) (transformed j unit (complex zero_f (neg one)))
