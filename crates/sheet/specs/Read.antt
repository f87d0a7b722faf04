-- 01 section 1 and 02 slips 3 and 5 as a reader: the kind words that may follow each other, and the sheet that some bytes hold, or the
-- first word that is out of grammar. Definitions only. `Claim` says what it has to do with `WellFormed` and `encode`.
use Rattle.std.specs.Prelude.{Bool, true, false, ◌&&◌, ◌||◌, cond, List, [], ◌∷◌, ℕ, suc, ◌-◌, ◌*◌, ◌/◌, eqb, leb, ltb, length, get_or}
use Rattle.ieee.specs.Functions.{joined}
use Rattle.sheet.specs.Words.{kind, payload, words_of}
use Rattle.refusal.specs.Outcome.{Outcome, answer, refusal, map}
use Rattle.sheet.specs.Blocks.{Block, Grammar, Result, read, fault, mapped, blocks_from}
use Rattle.sheet.specs.Sheet.{SheetLayer, layer, cauchy, keeps, tunes, SheetSurface, Sheet, kind_word}

-- ---- how many floats follow a kind: 01's table, slip 3's 'eight raw words', and slip 5's 'one float'
unfoldable pub floats_after : ℕ → ℕ
floats_after k = cond (eqb k 2 || (eqb k 3 || eqb k 4)) 3 (cond (eqb k 6) 4 (cond (eqb k 7) 1 0))

-- two raw words to a float
unfoldable pub raws : ℕ → ℕ
raws w = 2 * floats_after (kind w)

-- ---- where one stands between two blocks
pub data Standing : Type 0 where
  at_open : Standing
  -- after OPEN of an edition
  at_beam : ℕ → Standing
  -- after BEAM, a SURFACE or a layer: the edition, the SURFACEs so far, and how many layers may come
  among : ℕ → ℕ → ℕ → Standing
  -- after a kind 7: the edition and the SURFACEs so far
  at_surface : ℕ → ℕ → Standing
  ended : Standing

-- how many layers may come after a SURFACE: 16 after a coating 5, else none
abbrev pub layers_after : ℕ → ℕ
layers_after p = cond (eqb (p / 2) 5) 16 0

-- SURFACE: at most 64 of them, payload 0 to 15
abbrev pub is_surface : ℕ → ℕ → Bool
is_surface done w = eqb (kind w) 3 && (ltb done 64 && leb (payload w) 15)

-- the kinds of a layer: LAYER, and in edition 2 kind 6
abbrev pub layer_kind : ℕ → ℕ → Bool
layer_kind edition k = eqb k 4 || (eqb edition 2 && eqb k 6)

-- a layer: only where one may come, payload 0
abbrev pub is_layer : ℕ → ℕ → ℕ → Bool
is_layer edition most w = layer_kind edition (kind w) && (ltb 0 most && eqb (payload w) 0)

-- kind 7: in edition 2, payload 0, 'after a 64th SURFACE, 5 is at the kind 7'
abbrev pub is_tuning : ℕ → ℕ → ℕ → Bool
is_tuning edition done w = (eqb edition 2 && eqb (kind w) 7) && (ltb done 64 && eqb (payload w) 0)

-- END: with the count of SURFACEs
abbrev pub is_end : ℕ → ℕ → Bool
is_end done w = eqb (kind w) 5 && eqb (payload w) done

-- the kind words that may come: OPEN of edition 1 or 2, BEAM, SURFACEs, layers and kinds 7, END, nothing after. 'What follows' a kind 7
-- 'must be a SURFACE'
unfoldable pub may : Standing → ℕ → Bool
may at_open w = eqb w (kind_word 1 1) || eqb w (kind_word 1 2)
may (at_beam edition) w = eqb w (kind_word 2 0)
may (among edition done most) w = is_surface done w || (is_layer edition most w || (is_tuning edition done w || is_end done w))
may (at_surface edition done) w = is_surface done w
may ended w = false

unfoldable pub after : Standing → ℕ → Standing
after at_open w = at_beam (payload w)
after (at_beam edition) w = among edition 0 0
after (among edition done most) w =
    cond (eqb (kind w) 3) (among edition (suc done) (layers_after (payload w)))
    (cond (eqb (kind w) 7) (at_surface edition done)
    (cond (eqb (kind w) 5) ended (among edition done (most - 1))))
after (at_surface edition done) w = among edition (suc done) (layers_after (payload w))
after ended w = ended

unfoldable pub may_end : Standing → Bool
may_end at_open = false
may_end (at_beam edition) = false
may_end (among edition done most) = false
may_end (at_surface edition done) = false
may_end ended = true

abbrev pub sheet_grammar : Grammar
sheet_grammar = record { Standing = Standing; may_end = may_end; may = may; after = after; raws = raws }

-- ---- from blocks to the sheet
-- the floats of a block
unfoldable pub numbers : List ℕ → List ℕ
numbers [] = []
numbers (h ∷ []) = []
numbers (h ∷ l ∷ more) = joined h l ∷ numbers more

abbrev pub number : Block → ℕ → ℕ
number b i = get_or (numbers b.raw) i 0

-- what stands from a block on: layers of the SURFACE before it, and SURFACEs
pub record Rest : Type 0 where
  pub layers : List SheetLayer
  pub surfaces : List SheetSurface

abbrev pub layer_of : Block → SheetLayer
layer_of b =
    cond (eqb (kind b.word) 6) (cauchy (number b 0) (number b 1) (number b 2) (number b 3))
    (layer (number b 0) (number b 1) (number b 2))

abbrev pub surface_of : Block → List SheetLayer → SheetSurface
surface_of b layers =
    record {
      tuning = keeps;
      payload = payload b.word;
      n_incident = number b 0;
      n_substrate = number b 1;
      angle = number b 2;
      layers = layers;
    }

-- the first of some SURFACEs after a kind 7
abbrev pub tuned : ℕ → List SheetSurface → List SheetSurface
tuned wavelength [] = []
tuned wavelength (y ∷ ys) =
    record {
      tuning = tunes wavelength;
      payload = y.payload;
      n_incident = y.n_incident;
      n_substrate = y.n_substrate;
      angle = y.angle;
      layers = y.layers;
    } ∷ ys

unfoldable pub put : Block → Rest → Rest
put b r =
    cond (eqb (kind b.word) 3) (record { layers = []; surfaces = surface_of b r.layers ∷ r.surfaces })
    (cond (layer_kind 2 (kind b.word)) (record { layers = layer_of b ∷ r.layers; surfaces = r.surfaces })
    (cond (eqb (kind b.word) 7) (record { layers = r.layers; surfaces = tuned (number b 0) r.surfaces }) r))

unfoldable pub gathered : List Block → Rest
gathered [] = record { layers = []; surfaces = [] }
gathered (b ∷ bs) = put b (gathered bs)

abbrev pub no_block : Block
no_block = record { word = 0; raw = [] }

unfoldable pub sheet_of : List Block → Sheet
sheet_of bs =
    let beam = get_or bs 1 no_block in
    record {
      edition = payload (get_or bs 0 no_block).word;
      wavelength = number beam 0;
      s = number beam 1;
      p = number beam 2;
      surfaces = (gathered bs).surfaces;
    }

-- ---- from bytes to the sheet
unfoldable pub decode : List ℕ → Result Sheet
decode src = let ws = words_of src in mapped sheet_of (blocks_from sheet_grammar (suc (length ws)) at_open 0 ws)

-- refusal 5 at the place of the word at fault
abbrev pub graded : {A : Type 0} → Result A → Outcome A
graded (read a) = answer a
graded (fault place) = refusal 5 place

-- the count of SURFACEs
abbrev pub surfaces_of : Sheet → ℕ
surfaces_of x = length x.surfaces

unfoldable pub grammar : List ℕ → Outcome ℕ
grammar src = map surfaces_of (graded (decode src))
