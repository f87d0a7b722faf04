-- Jones vectors, Stokes vectors and matrices by their numbers, for C callers. Definitions only.
use Rattle.std.specs.Prelude.{ℕ, ◌&&◌, cond, List, [], ◌∷◌, eqb, length, get_or, Float}
use Rattle.std.specs.Float.{nan}
use Rattle.refusal.specs.Outcome.{Outcome, answer, invalid_parameter}
use Rattle.polarization_stokes.specs.declared.JonesVector.{JonesVector}
use Rattle.polarization_stokes.specs.declared.StokesVector.{StokesVector}
use Rattle.polarization_stokes.specs.Stokes as Stokes
use Rattle.polarization_mueller.specs.declared.MuellerMatrix.{MuellerMatrix}
use Rattle.c_call.specs.Call.{Reply, counted}
use Rattle.c_mueller.specs.Mueller.{entry}

-- ---- what is taken
-- 1 where there are not so many numbers
abbrev pub of : {A : Type 0} → ℕ → (List Float → A) → List Float → Outcome A
of count call numbers = cond (eqb (length numbers) count) (answer (call numbers)) invalid_parameter

-- the same of two lists
abbrev pub of_two : {A : Type 0} → ℕ → ℕ → (List Float → List Float → A) → List Float → List Float → Outcome A
of_two count other call numbers others =
    cond (eqb (length numbers) count && eqb (length others) other) (answer (call numbers others)) invalid_parameter

-- the number at a place
abbrev pub at : List Float → ℕ → Float
at numbers i = get_or numbers i nan

-- ex, ey, each as re, im
abbrev pub vector : List Float → JonesVector
vector numbers = record { ex = entry numbers 0; ey = entry numbers 2 }

-- s0, s1, s2, s3
abbrev pub stokes : List Float → StokesVector
stokes numbers = record { s0 = at numbers 0; s1 = at numbers 1; s2 = at numbers 2; s3 = at numbers 3 }

-- row after row
abbrev pub mueller : List Float → MuellerMatrix
mueller numbers = record {
  m =
      at numbers 0 ∷ at numbers 1 ∷ at numbers 2 ∷ at numbers 3
      ∷ at numbers 4 ∷ at numbers 5 ∷ at numbers 6 ∷ at numbers 7
      ∷ at numbers 8 ∷ at numbers 9 ∷ at numbers 10 ∷ at numbers 11
      ∷ at numbers 12 ∷ at numbers 13 ∷ at numbers 14 ∷ at numbers 15 ∷ [];
}

-- ---- what is written
abbrev pub parts : JonesVector → Reply
parts v = counted (v.ex.re ∷ v.ex.im ∷ v.ey.re ∷ v.ey.im ∷ [])

abbrev pub parameters : StokesVector → Reply
parameters s = counted (s.s0 ∷ s.s1 ∷ s.s2 ∷ s.s3 ∷ [])

-- the degrees of polarization, of linear and of circular polarization, the orientation and the ellipticity in radians
abbrev pub figures : StokesVector → Reply
figures s = counted
    (Stokes.degree_of_polarization s ∷ Stokes.degree_of_linear_polarization s ∷ Stokes.degree_of_circular_polarization s
    ∷ Stokes.orientation_angle_rad s ∷ Stokes.ellipticity_angle_rad s ∷ [])
