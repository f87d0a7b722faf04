-- 02 slip 6, whole. Types only; `proofs/Claim.antt` inhabits `Edition1Claim`. A sheet has a kind 7 or none (`UntunedClaim`).
use Rattle.std.specs.Prelude.{◌≡◌, List, [], ◌∷◌, ◌++◌, ℕ, ◌+◌, ◌≤◌, ◌<◌, length, get_or, drop, Float}
use Rattle.refusal.specs.Outcome.{answer, refusal}
use Rattle.sheet.specs.Words.{kind}
use Rattle.sheet.specs.Blocks.{Block}
use Rattle.sheet.specs.Sheet.{Sheet, WellFormed, block, blocks, words, encode, places}
use Rattle.sheet.specs.Claim.{Bytes}
use Rattle.sheet_values.specs.Values.{value}
use Rattle.sheet_surfaces.specs.Surfaces.{surface_answers}
use Rattle.gate.specs.Gate.{gated}
use Rattle.sheet_untuned.specs.Claim.{Untuned, FirstTuning}
use Rattle.train_steps.specs.declared.State.{State}
use Rattle.train_steps.specs.Train.{fresh, start, step, run}
use Rattle.train_claim.specs.Claim.{acts, told, steps}
use Rattle.sheet_edition_1.specs.Edition.{translated, to_edition_1}

-- ---- 'OPEN's payload is 1, all else is unchanged', over words: every word but OPEN's and those of a kind 6 is the old one's. Nine words
-- of a kind 6 become the seven of a LAYER, so that the words behind it move up: a block's words begin at its place (`places`).
abbrev pub nth_block : Sheet → ℕ → Block
nth_block x i = get_or (blocks x) i (record { word = 0; raw = [] })

-- the j-th word of the i-th block
abbrev pub word_at : Sheet → ℕ → ℕ → ℕ
word_at x i j = get_or (words x) (get_or (places x) i 0 + j) 0

pub record Unchanged (x new : Sheet) : Type 0 where
  pub many : length (blocks new) ≡ length (blocks x)
  pub opens : (i : ℕ) → kind (nth_block x i).word ≡ 1 → nth_block new i ≡ block 1 1 []
  -- any other block: its kind word and its raw words, and so each of its words where it stands
  pub others : (i : ℕ) → (kind (nth_block x i).word ≡ 1 → ⊥) → (kind (nth_block x i).word ≡ 6 → ⊥) → nth_block new i ≡ nth_block x i
  pub each_word : (i j : ℕ) → i < length (blocks x) → (kind (nth_block x i).word ≡ 1 → ⊥) → (kind (nth_block x i).word ≡ 6 → ⊥) →
      j ≤ length (nth_block x i).raw → word_at new i j ≡ word_at x i j

-- ---- an admitted sheet x without kind 7, and the bytes of the new one
pub record RunsAlike (src : List ℕ) (x : Sheet) (new : List ℕ) : Type 0 where
  -- 'Write an edition 1 sheet': the gate admits it
  pub formed : WellFormed (translated x)
  pub edition : (translated x).edition ≡ 1
  pub admitted : gated new ≡ answer (translated x)
  pub shorter : length new ≤ length src
  -- 'Running the new sheet yields the powers of the old one, bit for bit, surface by surface'
  pub runs : (list : List Float) → run new list ≡ run src list
  -- and so does a train: its start, each step from a state that holds the BEAM's wavelength, every list of steps
  pub starts : start new ≡ start src
  pub stepped : (st : State) → st.wavelength_nm ≡ value x.wavelength → step new st ≡ step src st
  pub lists : (n : ℕ) → acts new (steps n) (fresh x) ≡ acts src (steps n) (fresh x)
  pub told : (n : ℕ) → told new (steps n) (fresh x) ≡ told src (steps n) (fresh x)
  -- each surface's answers
  pub answers : (i : ℕ) → surface_answers new i ≡ surface_answers src i
  -- 'An edition 1 sheet comes out as itself'
  pub itself : x.edition ≡ 1 → new ≡ src
  -- written once more, it is as it was
  pub again : (output : List ℕ) → to_edition_1 new output ≡ to_edition_1 src output

-- what is written of it: the new sheet with what stood behind it, and its length; 8 where it has no room
pub record IsWritten (src new : List ℕ) : Type 0 where
  pub whole : (output : List ℕ) → length new ≤ length output →
      to_edition_1 src output ≡ record { result = answer (length new); output = new ++ drop (length new) output }
  pub eight : (output : List ℕ) → length output < length new → to_edition_1 src output ≡ record { result = refusal 8 0; output = output }

abbrev pub Untouched : List ℕ → ℕ → ℕ → Type 0
Untouched src number place = (output : List ℕ) → to_edition_1 src output ≡ record { result = refusal number place; output = output }

-- ---- the slip
pub record Edition1Claim : Type 0 where
  pub alike : (src : List ℕ) → Bytes src → (x : Sheet) → gated src ≡ answer x → Untuned x → RunsAlike src x (encode (translated x))
  -- the bytes of both are those of their words
  pub unchanged : (src : List ℕ) → Bytes src → (x : Sheet) → gated src ≡ answer x → (src ≡ encode x) × Unchanged x (translated x)
  pub written : (src : List ℕ) → Bytes src → (x : Sheet) → gated src ≡ answer x → Untuned x → IsWritten src (encode (translated x))
  -- '12 with the word of the first kind 7', whatever the output
  pub twelve : (src : List ℕ) → Bytes src → (x : Sheet) → gated src ≡ answer x → (place : ℕ) → FirstTuning x place → Untouched src 12 place
  -- 'after 4, 5 and 6'
  pub turned_back : (src : List ℕ) (number place : ℕ) → gated src ≡ refusal number place → Untouched src number place
