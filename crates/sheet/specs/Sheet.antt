-- 01 section 1 and 02 slips 3 and 5: a sheet of edition 1 or 2 as data, its blocks, and from these its words, its bytes and the places of
-- its kind words. There is no reader here. Definitions only. A float is its 64-bit pattern: the payload of a NaN is part of the bytes.
use Rattle.std.specs.Prelude.{◌≡◌, ◌⊎◌, List, [], ◌∷◌, ℕ, ◌+◌, ◌*◌, ◌/◌, ◌%◌, ◌^◌, ◌≤◌, ◌<◌, length, get_or}
use Rattle.sheet.specs.Blocks.{Block, All, flat, starts}

-- ---- the data
-- kind 4, LAYER: n, k, thickness nm. Kind 6, 'in place of any LAYER': A, B, C (Cauchy's coefficients) and thickness nm
pub data SheetLayer : Type 0 where
  layer : ℕ → ℕ → ℕ → SheetLayer
  cauchy : ℕ → ℕ → ℕ → ℕ → SheetLayer

-- 02 slip 5: 'kind 7, payload 0, one float: at most one before each SURFACE', a wavelength nm
pub data Tuning : Type 0 where
  keeps : Tuning
  tunes : ℕ → Tuning

-- SURFACE: the kind 7 before it; its payload, n_incident, n_substrate, angle rad; and the layers after it
pub record SheetSurface : Type 0 where
  pub tuning : Tuning
  pub payload : ℕ
  pub n_incident : ℕ
  pub n_substrate : ℕ
  pub angle : ℕ
  pub layers : List SheetLayer

-- OPEN: the edition. BEAM: wavelength nm, s power, p power; and the SURFACEs
pub record Sheet : Type 0 where
  pub edition : ℕ
  pub wavelength : ℕ
  pub s : ℕ
  pub p : ℕ
  pub surfaces : List SheetSurface

-- the i-th of some surfaces, counted from 0
abbrev pub no_surface : SheetSurface
no_surface = record { tuning = keeps; payload = 0; n_incident = 0; n_substrate = 0; angle = 0; layers = [] }

abbrev pub nth : List SheetSurface → ℕ → SheetSurface
nth ys i = get_or ys i no_surface

-- ---- which data a sheet can hold
abbrev pub Pattern : ℕ → Type 0
Pattern x = x < 2 ^ 64

-- 'Sheets of edition 2 may have kind 6'
abbrev pub GoodLayer : ℕ → SheetLayer → Type 0
GoodLayer edition (layer n k thickness) = Pattern n × (Pattern k × Pattern thickness)
GoodLayer edition (cauchy a b c thickness) = (edition ≡ 2) × (Pattern a × (Pattern b × (Pattern c × Pattern thickness)))

-- 'Edition 2 also gets kind 7'
abbrev pub GoodTuning : ℕ → Tuning → Type 0
GoodTuning edition keeps = Unit
GoodTuning edition (tunes wavelength) = (edition ≡ 2) × Pattern wavelength

-- payload 0 to 15; 0 to 16 layers, and only after a coating 5
pub record GoodSurface (edition : ℕ) (y : SheetSurface) : Type 0 where
  pub tuning : GoodTuning edition y.tuning
  pub payload : y.payload ≤ 15
  pub n_incident : Pattern y.n_incident
  pub n_substrate : Pattern y.n_substrate
  pub angle : Pattern y.angle
  pub layers : All (GoodLayer edition) y.layers
  pub few : length y.layers ≤ 16
  pub custom : (y.layers ≡ []) ⊎ (y.payload / 2 ≡ 5)

-- the grammar, of the data: edition 1 or 2, 0 to 64 SURFACEs
pub record WellFormed (x : Sheet) : Type 0 where
  pub edition : (x.edition ≡ 1) ⊎ (x.edition ≡ 2)
  pub wavelength : Pattern x.wavelength
  pub s : Pattern x.s
  pub p : Pattern x.p
  pub surfaces : All (GoodSurface x.edition) x.surfaces
  pub few : length x.surfaces ≤ 64

-- ---- the blocks
-- a kind word: its kind in the top 4 bits and a payload in the low 28
abbrev pub kind_word : ℕ → ℕ → ℕ
kind_word kind payload = kind * 2 ^ 28 + payload

-- two raw words to an f64: bits, high word first
unfoldable pub raw_words : List ℕ → List ℕ
raw_words [] = []
raw_words (x ∷ xs) = x / 2 ^ 32 ∷ x % 2 ^ 32 ∷ raw_words xs

abbrev pub block : ℕ → ℕ → List ℕ → Block
block kind payload floats = record { word = kind_word kind payload; raw = raw_words floats }

-- kinds 4 and 6
abbrev pub layer_block : SheetLayer → Block
layer_block (layer n k thickness) = block 4 0 (n ∷ k ∷ thickness ∷ [])
layer_block (cauchy a b c thickness) = block 6 0 (a ∷ b ∷ c ∷ thickness ∷ [])

-- kind 3
abbrev pub surface_block : SheetSurface → Block
surface_block y = block 3 y.payload (y.n_incident ∷ y.n_substrate ∷ y.angle ∷ [])

-- kind 7, where there is one, with `more` blocks after it
abbrev pub tuned_blocks : Tuning → List Block → List Block
tuned_blocks keeps more = more
tuned_blocks (tunes wavelength) more = block 7 0 (wavelength ∷ []) ∷ more

-- layers with `more` blocks after them
unfoldable pub layers_blocks : List SheetLayer → List Block → List Block
layers_blocks [] more = more
layers_blocks (l ∷ ls) more = layer_block l ∷ layers_blocks ls more

-- SURFACEs, each after its kind 7 and before its layers, with `more` blocks after them
unfoldable pub surfaces_blocks : List SheetSurface → List Block → List Block
surfaces_blocks [] more = more
surfaces_blocks (y ∷ ys) more = tuned_blocks y.tuning (surface_block y ∷ layers_blocks y.layers (surfaces_blocks ys more))

-- kind 5: the count of SURFACEs
abbrev pub end_block : ℕ → Block
end_block n = block 5 n []

-- OPEN, BEAM, the SURFACEs, END, nothing after
unfoldable pub blocks : Sheet → List Block
blocks x = block 1 x.edition [] ∷ block 2 0 (x.wavelength ∷ x.s ∷ x.p ∷ []) ∷
    surfaces_blocks x.surfaces (end_block (length x.surfaces) ∷ [])

-- ---- all three from the blocks: the words, the bytes, the places of the kind words counted in words from 0
abbrev pub words : Sheet → List ℕ
words x = flat (blocks x)

-- 32-bit words, high byte first
unfoldable pub bytes : List ℕ → List ℕ
bytes [] = []
bytes (w ∷ ws) = w / 2 ^ 24 ∷ w / 2 ^ 16 % 256 ∷ w / 2 ^ 8 % 256 ∷ w % 256 ∷ bytes ws

unfoldable pub encode : Sheet → List ℕ
encode x = bytes (words x)

abbrev pub places : Sheet → List ℕ
places x = starts 0 (blocks x)
