-- Which sheets have no kind 7, over a sheet's data, and which word is a 12's. Types only; `proofs/Claim.antt` inhabits `UntunedClaim`.
use Rattle.std.specs.Prelude.{◌≡◌, ◌⊎◌, List, ℕ, ◌<◌, length, get_or}
use Rattle.refusal.specs.Outcome.{answer, refusal}
use Rattle.sheet.specs.Words.{kind}
use Rattle.sheet.specs.Blocks.{All}
use Rattle.sheet.specs.Sheet.{keeps, SheetSurface, Sheet, WellFormed, blocks, places}
use Rattle.sheet.specs.Read.{no_block}
use Rattle.sheet.specs.Claim.{Bytes}
use Rattle.gate.specs.Gate.{gated}
use Rattle.sheet_untuned.specs.Untuned.{without_tuning}

abbrev pub Untuned : Sheet → Type 0
Untuned x = All (λ (y : SheetSurface). y.tuning ≡ keeps) x.surfaces

-- the first kind 7 is some block of the sheet, and stands at its kind word's place
pub record FirstTuning (x : Sheet) (place : ℕ) : Type 0 where
  pub block : ℕ
  pub inside : block < length (blocks x)
  pub seven : kind (get_or (blocks x) block no_block).word ≡ 7
  pub first : (i : ℕ) → i < block → kind (get_or (blocks x) i no_block).word ≡ 7 → ⊥
  pub stands : place ≡ get_or (places x) block 0

pub record UntunedClaim : Type 0 where
  -- a sheet has a kind 7 or none; one of edition 1 has none
  pub either : (x : Sheet) → WellFormed x → Untuned x ⊎ ((place : ℕ) × FirstTuning x place)
  pub old : (x : Sheet) → WellFormed x → x.edition ≡ 1 → Untuned x
  -- an admitted sheet is taken where it has none, and is 12 with the word of the first one where it has some
  pub taken : (src : List ℕ) → Bytes src → (x : Sheet) → gated src ≡ answer x → Untuned x → without_tuning src ≡ answer x
  pub twelve : (src : List ℕ) (x : Sheet) → gated src ≡ answer x → (place : ℕ) → FirstTuning x place → without_tuning src ≡ refusal 12 place
  -- 'after 4, 5 and 6'
  pub turned_back : (src : List ℕ) (number place : ℕ) → gated src ≡ refusal number place → without_tuning src ≡ refusal number place
