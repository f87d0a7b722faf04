-- Scaffolding, not to be believed: what the place of the first kind 7 tells, which is at least the word count where there is none.
use Rattle.std.specs.Prelude.{◌≡◌, List, ℕ, ◌≤◌, ◌<◌}
use Rattle.refusal.specs.Outcome.{answer, refusal}
use Rattle.sheet.specs.Words.{count}
use Rattle.sheet.specs.Sheet.{Sheet, blocks, places}
use Rattle.sheet_untuned.specs.Untuned.{no_tuning}

pub record Looked (src : List ℕ) (x : Sheet) (place : ℕ) : Type 0 where
  pub found : place < count src → no_tuning x (places x) (blocks x) ≡ refusal 12 place
  pub none : count src ≤ place → no_tuning x (places x) (blocks x) ≡ answer x
