-- The Mueller matrix of a Jones matrix by its numbers, for C callers. Definitions only.
use Rattle.std.specs.Prelude.{ℕ, suc, cond, List, eqb, length, get_or, Float}
use Rattle.std.specs.Float.{nan}
use Rattle.refusal.specs.Outcome.{Outcome, answer, invalid_parameter}
use Rattle.thin_film_complex.specs.declared.Complex.{Complex}
use Rattle.polarization_mueller.specs.declared.JonesMatrix.{JonesMatrix}
use Rattle.polarization_mueller.specs.declared.MuellerMatrix.{MuellerMatrix}
use Rattle.polarization_mueller.specs.Jones as Jones

-- the complex number whose real part stands at a place, and its imaginary part behind that
abbrev pub entry : List Float → ℕ → Complex
entry numbers i = record { re = get_or numbers i nan; im = get_or numbers (suc i) nan }

-- m00, m01, m10, m11, each as re, im
abbrev pub jones : List Float → JonesMatrix
jones numbers = Jones.jones (entry numbers 0) (entry numbers 2) (entry numbers 4) (entry numbers 6)

-- its Mueller matrix, by one conversion or the other; 1 where there are not 8 numbers
abbrev pub converted : (JonesMatrix → MuellerMatrix) → List Float → Outcome MuellerMatrix
converted conversion numbers = cond (eqb (length numbers) 8) (answer (conversion (jones numbers))) invalid_parameter
