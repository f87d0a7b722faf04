-- `JonesMatrix` of polarization.rs, method by method, in the Rust's order of operations. Definitions only.
use Rattle.std.specs.Prelude.{ℕ, [], ◌∷◌, get_or, Float}
use Rattle.std.specs.Float.Ieee.{neg}
use Rattle.ieee.specs.Operators.{◌⊗◌}
use Rattle.ieee.specs.Functions.{one, half}
use Rattle.math_trig.specs.Angles.{pi, half_pi}
use Rattle.math_trig.specs.Trig.{sin, cos}
use Rattle.thin_film_complex.specs.declared.Complex.{Complex}
use Rattle.thin_film_complex.specs.Complex.{real, zero, scale, add, sub}
use Rattle.thin_film_matrix.specs.Matrix.{none, dot}
use Rattle.polarization_stokes.specs.declared.JonesVector.{JonesVector}
use Rattle.polarization_mueller.specs.declared.JonesMatrix.{JonesMatrix}

-- [[a, b], [c, d]], in one row after the other
abbrev pub jones : Complex → Complex → Complex → Complex → JonesMatrix
jones a b c d = record { m = a ∷ b ∷ c ∷ d ∷ [] }

-- the entry at a place: that of [i][j] is 2 i + j
abbrev pub entry : JonesMatrix → ℕ → Complex
entry j i = get_or j.m i none

unfoldable pub identity : JonesMatrix
identity = jones (real one) zero zero (real one)

unfoldable pub linear_polarizer : Float → JonesMatrix
linear_polarizer angle =
    let c = cos angle in
    let s = sin angle in
    jones (real (c ⊗ c)) (real (c ⊗ s)) (real (c ⊗ s)) (real (s ⊗ s))

-- e^(i delta/2) and e^(-i delta/2)
unfoldable pub exp_pos : Float → Complex
exp_pos half-delta = record { re = cos half-delta; im = sin half-delta }

unfoldable pub exp_neg : Float → Complex
exp_neg half-delta = record { re = cos half-delta; im = neg (sin half-delta) }

-- of the two exponentials, and of the fast axis's cosine and sine
unfoldable pub retarding : Complex → Complex → Float → Float → JonesMatrix
retarding pos neg' c s =
    jones
    (add (scale pos (c ⊗ c)) (scale neg' (s ⊗ s)))
    (scale (sub pos neg') (c ⊗ s))
    (scale (sub pos neg') (c ⊗ s))
    (add (scale pos (s ⊗ s)) (scale neg' (c ⊗ c)))

unfoldable pub retarder : Float → Float → JonesMatrix
retarder retardance fast-axis = retarding (exp_pos (retardance ⊗ half)) (exp_neg (retardance ⊗ half)) (cos fast-axis) (sin fast-axis)

-- delta = pi/2
unfoldable pub quarter_wave_plate : Float → JonesMatrix
quarter_wave_plate fast-axis = retarder half_pi fast-axis

-- delta = pi
unfoldable pub half_wave_plate : Float → JonesMatrix
half_wave_plate fast-axis = retarder pi fast-axis

unfoldable pub diattenuator : Complex → Complex → JonesMatrix
diattenuator tx ty = jones tx zero zero ty

-- E' = J E
unfoldable pub apply : JonesMatrix → JonesVector → JonesVector
apply j v = record {
  ex = dot (entry j 0) v.ex (entry j 1) v.ey;
  ey = dot (entry j 2) v.ex (entry j 3) v.ey;
}

unfoldable pub mul : JonesMatrix → JonesMatrix → JonesMatrix
mul a b =
    jones
    (dot (entry a 0) (entry b 0) (entry a 1) (entry b 2))
    (dot (entry a 0) (entry b 1) (entry a 1) (entry b 3))
    (dot (entry a 2) (entry b 0) (entry a 3) (entry b 2))
    (dot (entry a 2) (entry b 1) (entry a 3) (entry b 3))
