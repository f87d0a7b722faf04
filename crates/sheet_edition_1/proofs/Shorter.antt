-- The new sheet is no longer than the old one. Assumes nothing.
use mathlib.Core.List.{List, [], ◌∷◌, map}
use Prim.Native.Nat.{◌≤◌}
use native.Mathlib.Omega.{arith}
use lib.ListN.{length}
use lib.Ieee.{Float}
use Rattle.sheet.specs.Blocks.{Block, flat}
use Rattle.sheet.specs.Sheet.{SheetLayer, layer, cauchy, Tuning, keeps, tunes, SheetSurface, Sheet, raw_words, surface_block, tuned_blocks, layers_blocks, surfaces_blocks, end_block, blocks, words, encode}
use Rattle.sheet.proofs.WordBytes.{length_bytes}
use Rattle.sheet_values.specs.Values.{value}
use Rattle.sheet_edition_1.specs.Edition.{plain, plain_surface, translated}

layers_shorter : (w : Float) (ls : List SheetLayer) (cs bs : List Block) → length (flat cs) ≤ length (flat bs) → length (flat (layers_blocks (map (plain w) ls) cs)) ≤ length (flat (layers_blocks ls bs))
unfolding flat layers_blocks raw_words
layers_shorter w [] cs bs h = h
layers_shorter w (layer n k t ∷ ls) cs bs h = let ih = layers_shorter w ls cs bs h in omega arith
layers_shorter w (cauchy a b c t ∷ ls) cs bs h = let ih = layers_shorter w ls cs bs h in omega arith

tuned_shorter : (t : Tuning) (cs bs : List Block) → length (flat cs) ≤ length (flat bs) → length (flat (tuned_blocks t cs)) ≤ length (flat (tuned_blocks t bs))
unfolding flat raw_words
tuned_shorter keeps cs bs h = h
tuned_shorter (tunes v) cs bs h = omega arith

surfaces_shorter : (w : Float) (ys : List SheetSurface) (cs bs : List Block) → length (flat cs) ≤ length (flat bs) → length (flat (surfaces_blocks (map (plain_surface w) ys) cs)) ≤ length (flat (surfaces_blocks ys bs))
unfolding flat surfaces_blocks raw_words
surfaces_shorter w [] cs bs h = h
surfaces_shorter w (y ∷ ys) cs bs h =
    let ih = surfaces_shorter w ys cs bs h in
    let l = layers_shorter w y.layers (surfaces_blocks (map (plain_surface w) ys) cs) (surfaces_blocks ys bs) ih in
    tuned_shorter y.tuning (surface_block y ∷ layers_blocks (map (plain w) y.layers) (surfaces_blocks (map (plain_surface w) ys) cs)) (surface_block y ∷ layers_blocks y.layers (surfaces_blocks ys bs)) (omega arith)

pub shorter : (x : Sheet) → length (encode (translated x)) ≤ length (encode x)
unfolding encode
shorter x = omega (arith, length_bytes (words (translated x)), length_bytes (words x), fewer)
  where
    fewer : length (words (translated x)) ≤ length (words x)
    fewer = unfold translated blocks flat raw_words in omega (arith, surfaces_shorter (value x.wavelength) x.surfaces (end_block (length (map (plain_surface (value x.wavelength)) x.surfaces)) ∷ []) (end_block (length x.surfaces) ∷ []) (unfold flat raw_words in omega arith))
