-- Scaffolding for the contracts of private functions: what stands at the front of a page, and what a run wrote. Definitions only.
use Rattle.std.specs.Prelude.{◌≡◌, Bool, false, List, ◌++◌, ℕ, ◌+◌, length, take, Float}
use Rattle.refusal.specs.Outcome.{Outcome, answer, refusal}
use Rattle.sheet.specs.Sheet.{Sheet}
use Rattle.gate.specs.Gate.{gated}
use Rattle.sheet_surfaces.specs.declared.NumberedSurface.{NumberedSurface}
use Rattle.train_steps.specs.Train.{fresh, after_each}

-- some bytes behind the first at bytes of a page: then count bytes stand
pub record Appended (before : List ℕ) (at : ℕ) (bytes : List ℕ) (count : ℕ) (after : List ℕ) : Type 0 where
  pub counts : count ≡ at + length bytes
  pub long : length after ≡ length before
  pub front : take count after ≡ take at before ++ bytes

-- whether a surface reflects; no where there is none
abbrev pub reflects : Outcome NumberedSurface → Bool
reflects (answer y) = y.surface.reflected
reflects (refusal number place) = false

-- the sheet that some bytes hold, its fresh train's s and p, its count of surfaces, and the list that its run wrote
pub record RunOf (src : List ℕ) (x : Sheet) (s p : Float) (count : ℕ) (list : List Float) : Type 0 where
  pub is : gated src ≡ answer x
  pub begins_s : s ≡ (fresh x).s
  pub begins_p : p ≡ (fresh x).p
  pub counts : length x.surfaces ≡ count
  pub rest : List Float
  pub wrote : list ≡ after_each (fresh x) x.surfaces ++ rest
