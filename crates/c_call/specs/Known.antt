-- The layouts of C: what is answered, with a number of its own in each field, and its list. Types only; `proofs/Known.antt` has them.
use Rattle.std.specs.Prelude.{◌≡◌, Bool, true, false, List, [], ◌∷◌, ℕ, zero, suc, ◌+◌, pos, Float}
use Rattle.std.specs.Float.{binary64}
use Rattle.std.specs.Float.Ieee.{of_int}
use Rattle.ieee.specs.Functions.{zero_f, one}
use Rattle.refusal.specs.Outcome.{refusal}
use Rattle.thin_film_complex.specs.declared.Complex.{Complex}
use Rattle.thin_film_solver.specs.declared.CoatingResponse.{CoatingResponse}
use Rattle.polarization_mueller.specs.declared.JonesMatrix.{JonesMatrix}
use Rattle.polarization_mueller.specs.declared.MuellerMatrix.{MuellerMatrix}
use Rattle.polarization_mueller.specs.Jones.{jones}
use Rattle.surface.specs.declared.Answers.{Answers}
use Rattle.c_call.specs.Call.{done, reply, written, answered}
use Rattle.c_call.specs.Layout.{alone, both, evaluated, entries, two_entries, rows, surface_answered}

-- the f64 of a whole number
abbrev pub x : ℕ → Float
x i = of_int binary64 (pos i)

-- so many whole numbers from one on
abbrev pub from : ℕ → ℕ → List Float
from i zero = []
from i (suc n) = x i ∷ from (suc i) n

-- x + i y
abbrev pub complex : ℕ → Complex
complex i = record { re = x i; im = x (suc i) }

-- from a first number on, in the order that C has them: rs, rp, ts, tp as re, im; R_s, R_p, T_s, T_p; two phases; two absorptances
abbrev pub response : ℕ → CoatingResponse
response i =
    record {
      rs = complex i;
      rp = complex (i + 2);
      ts = complex (i + 4);
      tp = complex (i + 6);
      reflectance_s = x (i + 8);
      reflectance_p = x (i + 9);
      transmittance_s = x (i + 10);
      transmittance_p = x (i + 11);
      phase_rs_rad = x (i + 12);
      phase_rp_rad = x (i + 13);
      absorptance_s = x (i + 14);
      absorptance_p = x (i + 15);
    }

-- m00, m01, m10, m11 as re, im
abbrev pub jones_from : ℕ → JonesMatrix
jones_from i = jones (complex i) (complex (i + 2)) (complex (i + 4)) (complex (i + 6))

-- row after row
abbrev pub mueller_from : ℕ → MuellerMatrix
mueller_from i = record { m = from i 16 }

-- R_s, R_p, T_s, T_p, the reflected light's Jones matrix and the transmitted's, their Mueller matrices, the response: 1 to 68
abbrev pub answers : Bool → Answers
answers coated =
    record {
      coated = coated;
      powers = record { reflectance_s = x 1; reflectance_p = x 2; transmittance_s = x 3; transmittance_p = x 4 };
      response = response 53;
      reflection = jones_from 5;
      transmission = jones_from 13;
      reflection_mueller = mueller_from 21;
      transmission_mueller = mueller_from 37;
    }

pub record KnownLayouts : Type 0 where
  -- dihkelu_evaluate: 16 numbers, s before p throughout
  pub responses : evaluated (response 1) ≡ reply 16 (from 1 16)
  -- a Jones matrix: 8 numbers; two of them: 16
  pub a_jones_matrix : entries (jones_from 1) ≡ reply 8 (from 1 8)
  pub jones_matrices : two_entries (jones_from 1) (jones_from 9) ≡ reply 16 (from 1 16)
  -- a Mueller matrix: 16 numbers
  pub a_mueller_matrix : rows (mueller_from 1) ≡ reply 16 (from 1 16)
  -- dihkelu_answers: 1 before the 68 numbers of a coated surface, 0 before the 52 of a bare one
  pub coated : surface_answered (answers true) ≡ reply 69 (one ∷ from 1 68)
  pub bare : surface_answered (answers false) ≡ reply 53 (zero_f ∷ from 1 52)
  -- one number, and two with what is returned for them
  pub one_number : alone (x 1) ≡ reply 1 (x 1 ∷ [])
  pub two_numbers : both 7 (x 1) (x 2) ≡ reply 7 (x 1 ∷ x 2 ∷ [])
  -- numbers at the front of a list, which keeps the rest; 8 where it is too short; a refusal's number above its place
  pub written_in_front : written (both 2 (x 1) (x 2)) (from 11 3) ≡ done 2 (x 1 ∷ x 2 ∷ x 13 ∷ [])
  pub too_short : written (both 2 (x 1) (x 2)) (from 11 1) ≡ done 0x8_0000_0000 (from 11 1)
  pub turned_back : answered (both 2 (x 1)) (refusal 6 9) (from 11 3) ≡ done 0x6_0000_0009 (from 11 3)
