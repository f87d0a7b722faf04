-- The layout of a range. Types only; `proofs/Known.antt` has it.
use Rattle.std.specs.Prelude.{◌≡◌, [], ◌∷◌, Float}
use Rattle.c_call.specs.Call.{reply}
use Rattle.c_range.specs.Range.{ranged}

pub record KnownRange : Type 0 where
  -- low, then high; 2 is returned
  pub low_first : (low high : Float) → ranged (record { low = low; high = high }) ≡ reply 2 (low ∷ high ∷ [])
