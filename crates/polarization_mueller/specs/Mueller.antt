-- `MuellerMatrix` of polarization.rs, and `JonesMatrix::to_mueller`, in the Rust's order of operations. Definitions only.
use Rattle.std.specs.Prelude.{ℕ, [], ◌∷◌, get_or, Float}
use Rattle.std.specs.Float.{nan}
use Rattle.ieee.specs.Operators.{◌⊕◌, ◌⊖◌, ◌⊗◌}
use Rattle.ieee.specs.Functions.{zero_f, one, half}
use Rattle.polarization_stokes.specs.declared.JonesVector.{JonesVector}
use Rattle.polarization_stokes.specs.declared.StokesVector.{StokesVector}
use Rattle.polarization_stokes.specs.Jones.{linear_horizontal, linear_vertical, linear_45, circular_right, to_stokes}
use Rattle.polarization_mueller.specs.declared.JonesMatrix.{JonesMatrix}
use Rattle.polarization_mueller.specs.declared.MuellerMatrix.{MuellerMatrix}
use Rattle.polarization_mueller.specs.Jones.{apply}

-- the entry at a place: that of [i][j] is 4 i + j
abbrev pub entry : MuellerMatrix → ℕ → Float
entry m i = get_or m.m i nan

unfoldable pub identity : MuellerMatrix
identity = record {
  m =
      one ∷ zero_f ∷ zero_f ∷ zero_f
      ∷ zero_f ∷ one ∷ zero_f ∷ zero_f
      ∷ zero_f ∷ zero_f ∷ one ∷ zero_f
      ∷ zero_f ∷ zero_f ∷ zero_f ∷ one ∷ [];
}

-- a row times a Stokes vector, added onto +0 from the first term to the last
unfoldable pub row_times : Float → Float → Float → Float → StokesVector → Float
row_times a b c d s = zero_f ⊕ a ⊗ s.s0 ⊕ b ⊗ s.s1 ⊕ c ⊗ s.s2 ⊕ d ⊗ s.s3

-- S' = M S
unfoldable pub apply_mueller : MuellerMatrix → StokesVector → StokesVector
apply_mueller m s = record {
  s0 = row_times (entry m 0) (entry m 1) (entry m 2) (entry m 3) s;
  s1 = row_times (entry m 4) (entry m 5) (entry m 6) (entry m 7) s;
  s2 = row_times (entry m 8) (entry m 9) (entry m 10) (entry m 11) s;
  s3 = row_times (entry m 12) (entry m 13) (entry m 14) (entry m 15) s;
}

-- ---- to_mueller
-- the Stokes vector of the response to a Jones vector
unfoldable pub response : JonesMatrix → JonesVector → StokesVector
response j v = to_stokes (apply j v)

-- 0.5 * (x + y), 0.5 * (x - y)
abbrev pub mean : Float → Float → Float
mean x y = half ⊗ (x ⊕ y)

abbrev pub half_gap : Float → Float → Float
half_gap x y = half ⊗ (x ⊖ y)

-- the columns, of the responses to the horizontal, vertical, 45 degree and right circular states
unfoldable pub columns : StokesVector → StokesVector → StokesVector → StokesVector → MuellerMatrix
columns h v p45 rcp =
    let m00 = mean h.s0 v.s0 in
    let m10 = mean h.s1 v.s1 in
    let m20 = mean h.s2 v.s2 in
    let m30 = mean h.s3 v.s3 in
    record {
      m =
          m00 ∷ half_gap h.s0 v.s0 ∷ (p45.s0 ⊖ m00) ∷ (rcp.s0 ⊖ m00)
          ∷ m10 ∷ half_gap h.s1 v.s1 ∷ (p45.s1 ⊖ m10) ∷ (rcp.s1 ⊖ m10)
          ∷ m20 ∷ half_gap h.s2 v.s2 ∷ (p45.s2 ⊖ m20) ∷ (rcp.s2 ⊖ m20)
          ∷ m30 ∷ half_gap h.s3 v.s3 ∷ (p45.s3 ⊖ m30) ∷ (rcp.s3 ⊖ m30) ∷ [];
    }

unfoldable pub to_mueller : JonesMatrix → MuellerMatrix
to_mueller j = columns (response j linear_horizontal) (response j linear_vertical) (response j linear_45) (response j circular_right)
