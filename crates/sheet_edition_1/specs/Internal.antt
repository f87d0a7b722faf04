-- Scaffolding, not to be believed: the words of the new sheet, block by block, by the places of the old one.
use Rattle.std.specs.Prelude.{◌≡◌, cond, List, [], ◌∷◌, ℕ, ◌-◌, ◌≤◌, eqb, length, take, drop, Float}
use Rattle.refusal.specs.Outcome.{answer}
use Rattle.sheet.specs.Words.{word, words_of, kind}
use Rattle.sheet.specs.Sheet.{Sheet, kind_word, layer_block, encode}
use Rattle.sheet.specs.Internal.{next_place, layer_at}
use Rattle.gate.specs.Gate.{gated}
use Rattle.sheet_edition_1.specs.Edition.{plain, translated}

-- how many words the block at a place becomes: nine words of a kind 6 become the seven of a LAYER
abbrev pub new_size : List ℕ → ℕ → ℕ
new_size src at = cond (eqb (kind (word src at)) 6) 7 (next_place src at - at)

-- the LAYER that a kind 6 becomes
abbrev pub layer_words : Float → List ℕ → ℕ → List ℕ
layer_words wavelength src at = let b = layer_block (plain wavelength (layer_at src at)) in b.word ∷ b.raw

-- the words that the block at a place becomes
unfoldable pub new_words : Float → List ℕ → ℕ → List ℕ
new_words wavelength src at =
    cond (eqb (kind (word src at)) 1) (kind_word 1 1 ∷ [])
    (cond (eqb (kind (word src at)) 6) (layer_words wavelength src at) (take (next_place src at - at) (drop at (words_of src))))

-- an admitted sheet, and room for the new one
pub record Room (src output : List ℕ) : Type 0 where
  pub sheet : Sheet
  pub is : gated src ≡ answer sheet
  pub room : length (encode (translated sheet)) ≤ length output
