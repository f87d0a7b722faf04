-- Scaffolding, not to be believed: what the code's enum stands for, and what stands at a place of some bytes. The contracts of helpers name
-- these; the claims
-- name `decode` alone.
use Rattle.std.specs.Prelude.{Bool, true, false, ◌&&◌, cond, List, [], ◌∷◌, ℕ, zero, suc, ◌+◌, ◌-◌, ◌*◌, eqb, leb, ltb}
use Rattle.std.specs.Float.{binary64}
use Rattle.std.specs.Float.Ieee.{of_bits}
use Rattle.sheet.specs.declared.Floats.{Floats}
use Rattle.sheet.specs.declared.LayerRun.{LayerRun}
use Rattle.sheet.specs.declared.PlainFloats.{PlainFloats}
use Rattle.sheet.specs.declared.Standing.{Standing}
use Rattle.sheet.specs.declared.Standing.TheVariants as S
use Rattle.sheet.specs.Words.{word, count, kind, payload, float}
use Rattle.sheet.specs.Sheet.{SheetLayer, layer, cauchy, Tuning, keeps, tunes, SheetSurface, kind_word}
use Rattle.sheet.specs.Read as Read

abbrev pub standing_of : Standing → Read.Standing
standing_of S.AtOpen = Read.at_open
standing_of (S.AtBeam edition) = Read.at_beam edition
standing_of (S.Among edition done most) = Read.among edition done most
standing_of (S.AtSurface edition done) = Read.at_surface edition done
standing_of S.Ended = Read.ended

-- how many layers may come there, and how many kinds 6; and where one stands after n of them
abbrev pub most_of : Read.Standing → ℕ
most_of Read.at_open = 0
most_of (Read.at_beam edition) = 0
most_of (Read.among edition done most) = most
most_of (Read.at_surface edition done) = 0
most_of Read.ended = 0

abbrev pub most_cauchy : Read.Standing → ℕ
most_cauchy Read.at_open = 0
most_cauchy (Read.at_beam edition) = 0
most_cauchy (Read.among edition done most) = cond (eqb edition 2) most 0
most_cauchy (Read.at_surface edition done) = 0
most_cauchy Read.ended = 0

abbrev pub fewer : ℕ → Read.Standing → Read.Standing
fewer n Read.at_open = Read.at_open
fewer n (Read.at_beam edition) = Read.at_beam edition
fewer n (Read.among edition done most) = Read.among edition done (most - n)
fewer n (Read.at_surface edition done) = Read.at_surface edition done
fewer n Read.ended = Read.ended

-- one more where the kind word is a SURFACE's
abbrev pub counted : ℕ → ℕ → ℕ
counted w n = cond (eqb (kind w) 3) (n + 1) n

-- the three floats after the kind word at a place
abbrev pub floats_at : List ℕ → ℕ → Floats
floats_at src at =
    record {
      first = of_bits binary64 (float src (at + 1));
      second = of_bits binary64 (float src (at + 3));
      third = of_bits binary64 (float src (at + 5));
    }

-- whether the whole of a block of a kind word stands at a place, so many words in all
unfoldable pub stands_whole : ℕ → ℕ → List ℕ → ℕ → Bool
stands_whole w size src at = leb (at + size) (count src) && eqb (word src at) w

abbrev pub or_none : Bool → ℕ → ℕ
or_none true n = n
or_none false n = 0

-- how many do, one after the other: `most` at the most
unfoldable pub run_of : ℕ → ℕ → ℕ → List ℕ → ℕ → ℕ
run_of w size zero src at = 0
run_of w size (suc most) src at = or_none (stands_whole w size src at) (suc (run_of w size most src (at + size)))

-- a LAYER; and its floats, zero throughout where none stands
abbrev pub plain_stands : List ℕ → ℕ → Bool
plain_stands src at = stands_whole (kind_word 4 0) 7 src at

unfoldable pub plain_floats : List ℕ → ℕ → PlainFloats
plain_floats src at =
    let f = floats_at src at in
    cond (plain_stands src at) (record { stands = true; first = f.first; second = f.second; third = f.third })
    (record { stands = false; first = of_bits binary64 0; second = of_bits binary64 0; third = of_bits binary64 0 })

-- the place after a block of a kind at a place
abbrev pub place_after : ℕ → ℕ → ℕ
place_after at k = at + suc (2 * Read.floats_after k)

-- the place after the block at a place; past the last word the place itself
unfoldable pub next_place : List ℕ → ℕ → ℕ
next_place src at = cond (ltb at (count src)) (at + suc (Read.raws (word src at))) at

-- the place n blocks on
unfoldable pub place_on : List ℕ → ℕ → ℕ → ℕ
place_on src at zero = at
place_on src at (suc n) = place_on src (next_place src at) n

-- a layer's kind word stands after the block at a place
abbrev pub layer_follows : List ℕ → ℕ → Bool
layer_follows src at = Read.layer_kind 2 (kind (word src (next_place src at)))

-- how many layers stand directly after the block at a place: `most` at the most
unfoldable pub layer_run : ℕ → List ℕ → ℕ → ℕ
layer_run zero src at = 0
layer_run (suc most) src at = or_none (layer_follows src at) (suc (layer_run most src (next_place src at)))

-- and the place after them
abbrev pub layers_on : List ℕ → ℕ → LayerRun
layers_on src at = let n = layer_run 16 src at in record { count = n; next = place_on src at (suc n) }

-- the kind 7 at a place, if one is there
abbrev pub tuning_at : List ℕ → ℕ → Tuning
tuning_at src at = cond (eqb (kind (word src at)) 7) (tunes (float src (at + 1))) keeps

-- the layer whose kind word is at a place; the SURFACE, without a kind 7 before it
abbrev pub layer_at : List ℕ → ℕ → SheetLayer
layer_at src at =
    cond (eqb (kind (word src at)) 6) (cauchy (float src (at + 1)) (float src (at + 3)) (float src (at + 5)) (float src (at + 7)))
    (layer (float src (at + 1)) (float src (at + 3)) (float src (at + 5)))

abbrev pub surface_at : List ℕ → ℕ → List SheetLayer → SheetSurface
surface_at src at layers =
    record {
      tuning = keeps;
      payload = payload (word src at);
      n_incident = float src (at + 1);
      n_substrate = float src (at + 3);
      angle = float src (at + 5);
      layers = layers;
    }

-- n layers, one after the other from a place on
unfoldable pub layers_at : List ℕ → ℕ → ℕ → List SheetLayer
layers_at src at zero = []
layers_at src at (suc n) = layer_at src at ∷ layers_at src (next_place src at) n

-- the SURFACE of the blocks from a place on: after the kind 7, if one is there
unfoldable pub onto : List ℕ → ℕ → ℕ
onto src at = cond (eqb (kind (word src at)) 7) (next_place src at) at

-- where the i-th SURFACE begins, with the kind 7 before it: the first after OPEN and BEAM, each other after the layers of the one before it
unfoldable pub begin : List ℕ → ℕ → ℕ
begin src zero = place_on src 0 2
begin src (suc i) = let at = onto src (begin src i) in place_on src at (suc (layer_run 16 src at))

-- the place of the i-th SURFACE
abbrev pub place : List ℕ → ℕ → ℕ
place src i = onto src (begin src i)
