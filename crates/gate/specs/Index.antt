-- The gate with the index of the sheet. Definitions only.
use Rattle.std.specs.Prelude.{cond, List, ℕ, replicate, Float}
use Rattle.ieee.specs.Functions.{one}
use Rattle.refusal.specs.Outcome.{Outcome, answer, refusal}
use Rattle.sheet.specs.Claim.{length_fits}
use Rattle.sheet.specs.Read.{grammar}
use Rattle.sheet.specs.Internal.{begin}
use Rattle.sheet_index.specs.Index.{filled, layers_of, sine_of, cosine_of}
use Rattle.gate.specs.Gate.{gate}

-- the gate's outcome, and four lists
pub record Index : Type 0 where
  pub result : Outcome ℕ
  pub begins : List ℕ
  pub counts : List ℕ
  pub sines : List Float
  pub cosines : List Float

-- how many SURFACEs a sheet in grammar has, and none where it is not
abbrev pub count_of : Outcome ℕ → ℕ
count_of (answer n) = n
count_of (refusal number place) = 0

abbrev pub rows : List ℕ → ℕ
rows src = cond (length_fits src) (count_of (grammar src)) 0

-- of each SURFACE where it begins, how many layers it has, and the sine and the cosine of its angle, in the first of 64 places; 1 in the others
unfoldable pub index : List ℕ → Index
index src =
    record {
      result = gate src;
      begins = filled (begin src) (rows src) (replicate 64 1);
      counts = filled (layers_of src) (rows src) (replicate 64 1);
      sines = filled (sine_of src) (rows src) (replicate 64 one);
      cosines = filled (cosine_of src) (rows src) (replicate 64 one);
    }
