-- Arguments and answers of several floats, in the order in which they are recorded. Definitions only.
use Rattle.std.specs.Prelude.{List, [], ◌∷◌, ℕ, ◌+◌, Float}
use Rattle.std.specs.Float.{binary64}
use Rattle.std.specs.Float.Ieee.{of_bits}
use Rattle.thin_film_complex.specs.declared.Complex.{Complex}
use Rattle.thin_film_solver.specs.declared.CoatingResponse.{CoatingResponse}
use Rattle.polarization_mueller.specs.declared.JonesMatrix.{JonesMatrix}
use Rattle.polarization_mueller.specs.Jones.{entry}
use Rattle.test_records.specs.declared.Four.{Four}
use Rattle.test_records.specs.Words.{word}

-- ---- from bytes
abbrev float : List ℕ → ℕ → Float
float src i = of_bits binary64 (word src i)

abbrev complex : List ℕ → ℕ → Complex
complex src i = record { re = float src i; im = float src (i + 1) }

abbrev pub four : List ℕ → ℕ → Four
four src i = record { a = float src i; b = float src (i + 1); c = float src (i + 2); d = float src (i + 3) }

-- row by row, as re, im
abbrev pub matrix : Four → Four → JonesMatrix
matrix x y = record {
  m = record { re = x.a; im = x.b } ∷ record { re = x.c; im = x.d } ∷ record { re = y.a; im = y.b } ∷
      record { re = y.c; im = y.d } ∷ [];
}

abbrev pub jones : List ℕ → ℕ → JonesMatrix
jones src i = matrix (four src i) (four src (i + 4))

abbrev pub response : List ℕ → CoatingResponse
response src = record {
  rs = complex src 0;
  rp = complex src 2;
  ts = complex src 4;
  tp = complex src 6;
  reflectance_s = float src 8;
  reflectance_p = float src 9;
  transmittance_s = float src 10;
  transmittance_p = float src 11;
  phase_rs_rad = float src 12;
  phase_rp_rad = float src 13;
  absorptance_s = float src 14;
  absorptance_p = float src 15;
}

-- ---- an answer

abbrev parts : Complex → List Float → List Float
parts z xs = z.re ∷ z.im ∷ xs

abbrev pub of_jones : JonesMatrix → List Float
of_jones j = parts (entry j 0) (parts (entry j 1) (parts (entry j 2) (parts (entry j 3) [])))

abbrev pub of_response : CoatingResponse → List Float
of_response r =
    parts r.rs
    (parts r.rp
    (parts r.ts
    (parts r.tp (r.reflectance_s ∷ r.reflectance_p ∷ r.transmittance_s ∷ r.transmittance_p ∷ r.phase_rs_rad ∷
    r.phase_rp_rad ∷ r.absorptance_s ∷ r.absorptance_p ∷ []))))
