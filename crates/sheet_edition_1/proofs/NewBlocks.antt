-- The new sheet's blocks are made of the old one's, one by one. Assumes nothing.
use mathlib.Core.Path.{◌≡◌, refl, sym, ap, ◌∙◌}
use mathlib.Core.Bool.{Bool, true, false, ◌||◌, cond}
use mathlib.Core.List.{List, [], ◌∷◌, ◌++◌, map}
use Prim.Native.Nat.{ℕ, suc, ◌+◌, ◌-◌, ◌*◌, ◌≤◌, ◌<◌, ◌^◌}
use native.Mathlib.Omega.{arith}
use lib.Dec.{eqb, ltb}
use lib.ListN.{length, get_or, take, drop, length-map, length-drop}
use lib.Seq.{take_at, length-take-le}
use lib.Ieee.{Float}
use borrow.Author.Tests.{eqb-true, ltb-true, lt-ltb}
use Rattle.sheet.specs.Words.{big_endian, word, words_of, count, kind, float}
use Rattle.sheet.specs.Blocks.{Block, All, flat}
use Rattle.sheet.specs.Sheet.{SheetLayer, layer, cauchy, Tuning, keeps, tunes, SheetSurface, Sheet, GoodSurface, WellFormed, raw_words, block, layer_block, surface_block, tuned_blocks, layers_blocks, surfaces_blocks, end_block, blocks}
use Rattle.sheet.specs.Read.{floats_after, raws, number, layer_of}
use Rattle.sheet.specs.Internal.{next_place}
use Rattle.sheet.proofs.KindWords.{numbers_raw, kind_of}
use Rattle.sheet.proofs.Forward.{small_edition}
use Rattle.sheet.proofs.Measure.{words_of_length}
use Rattle.sheet.proofs.Stands.{Stands, inside, word_here, float_here, next_is}
use Rattle.sheet_values.specs.Values.{value}
use Rattle.sheet_edition_1.specs.Edition.{plain, plain_surface, translated}
use Rattle.sheet_edition_1.specs.Internal.{new_size, new_words}

-- what a block becomes
unfoldable pub new_block : Float → Block → Block
new_block w b = cond (eqb (kind b.word) 1) (block 1 1 []) (cond (eqb (kind b.word) 6) (layer_block (plain w (layer_of b))) b)

abbrev pub new_blocks : Float → List Block → List Block
new_blocks w bs = map (new_block w) bs

-- ---- of a sheet
new_layer : (w : Float) (l : SheetLayer) → new_block w (layer_block l) ≡ layer_block (plain w l)
unfolding new_block
new_layer w (layer n k t) = refl
new_layer w (cauchy a b c t) = ap (λ (fs : List ℕ). layer_block (plain w (cauchy (get_or fs 0 0) (get_or fs 1 0) (get_or fs 2 0) (get_or fs 3 0)))) (numbers_raw (a ∷ b ∷ c ∷ t ∷ []))

-- any other kind is as it was
new_other : (w : Float) (k p : ℕ) (fs : List ℕ) → p < 2 ^ 28 → eqb k 1 ≡ false → eqb k 6 ≡ false → new_block w (block k p fs) ≡ block k p fs
unfolding new_block
new_other w k p fs lt e f = let q = kind_of k p lt in rw (q, e, f) refl

new_layers : (w : Float) (ls : List SheetLayer) (more : List Block) → new_blocks w (layers_blocks ls more) ≡ layers_blocks (map (plain w) ls) (new_blocks w more)
unfolding layers_blocks
new_layers w [] more = refl
new_layers w (l ∷ ls) more = λ i. new_layer w l i ∷ new_layers w ls more i

new_tuned : (w : Float) (t : Tuning) (more : List Block) → new_blocks w (tuned_blocks t more) ≡ tuned_blocks t (new_blocks w more)
new_tuned w keeps more = refl
new_tuned w (tunes v) more = λ i. new_other w 7 0 (v ∷ []) (omega arith) refl refl i ∷ map (new_block w) more

new_surfaces : (w : Float) (edition : ℕ) (ys : List SheetSurface) (more : List Block) → All (GoodSurface edition) ys → new_blocks w (surfaces_blocks ys more) ≡ surfaces_blocks (map (plain_surface w) ys) (new_blocks w more)
unfolding surfaces_blocks
new_surfaces w edition [] more g = refl
new_surfaces w edition (y ∷ ys) more g =
    new_tuned w y.tuning (surface_block y ∷ layers_blocks y.layers (surfaces_blocks ys more))
    ∙ (λ i. tuned_blocks y.tuning (new_other w 3 y.payload (y.n_incident ∷ y.n_substrate ∷ y.angle ∷ []) (omega (arith, g.0.payload)) refl refl i ∷ (new_layers w y.layers (surfaces_blocks ys more) ∙ ap (layers_blocks (map (plain w) y.layers)) (new_surfaces w edition ys more g.1)) i))

new_open : (w : Float) (edition : ℕ) → edition < 2 ^ 28 → new_block w (block 1 edition []) ≡ block 1 1 []
unfolding new_block
new_open w edition lt = let q = kind_of 1 edition lt in rw q refl

pub new_sheet : (x : Sheet) → WellFormed x → new_blocks (value x.wavelength) (blocks x) ≡ blocks (translated x)
unfolding blocks translated
new_sheet x h =
    let w = value x.wavelength in
    let n = length x.surfaces in
    λ i. new_open w x.edition (small_edition x.edition h.edition) i ∷ new_other w 2 0 (x.wavelength ∷ x.s ∷ x.p ∷ []) (omega arith) refl refl i ∷
    (new_surfaces w x.edition x.surfaces (end_block n ∷ []) h.surfaces ∙ ap (λ (b : Block). surfaces_blocks (map (plain_surface w) x.surfaces) (b ∷ []))
    (new_other w 5 n [] (omega (arith, h.few)) refl refl ∙ ap end_block (sym (length-map x.surfaces (plain_surface w))))) i

-- ---- at a place
module _ (src : List ℕ) (at : ℕ) (b : Block) (bs : List Block) (h : Stands src at (b ∷ bs)) where
  next_less : next_place src at - at ≡ suc (length b.raw)
  next_less = let n = next_is src at b bs h in omega arith

  pub next_inside : next_place src at ≤ count src
  next_inside = let n = next_is src at b bs h in omega (arith, inside src at b bs h)

  pub next_after : at < next_place src at
  next_after = let n = next_is src at b bs h in omega arith

  there : drop at (words_of src) ≡ (b.word ∷ b.raw) ++ flat bs
  unfolding flat
  there = h.words

  kept : take (next_place src at - at) (drop at (words_of src)) ≡ b.word ∷ b.raw
  kept = ap (λ (n : ℕ). take n (drop at (words_of src))) next_less ∙ ap (take (suc (length b.raw))) there ∙ take_at (b.word ∷ b.raw) (flat bs) (suc (length b.raw)) refl

  glass : kind b.word ≡ 6 → cauchy (float src (at + 1)) (float src (at + 3)) (float src (at + 5)) (float src (at + 7)) ≡ cauchy (number b 0) (number b 1) (number b 2) (number b 3)
  unfolding raws floats_after
  glass e =
      let s : length b.raw ≡ 2 * floats_after 6 = h.sized.0 ∙ ap (λ (m : ℕ). 2 * floats_after m) e in
      let f : (i j : ℕ) → j ≡ suc (2 * i) → i < 4 → float src (at + j) ≡ number b i = λ i j q lt. float_here src at b bs h i j q (omega arith) in
      λ i. cauchy (f 0 1 refl (omega arith) i) (f 1 3 refl (omega arith) i) (f 2 5 refl (omega arith) i) (f 3 7 refl (omega arith) i)

  module _ (w : Float) where
    pub words_here : new_words w src at ≡ (new_block w b).word ∷ (new_block w b).raw
    unfolding new_words new_block raw_words
    words_here = by (eqb (kind b.word) 1) refl (eqb (kind b.word) 6) refl
      where
        by : (t : Bool) → eqb (kind b.word) 1 ≡ t → (u : Bool) → eqb (kind b.word) 6 ≡ u
            → new_words w src at ≡ (new_block w b).word ∷ (new_block w b).raw
        by true e u f = rw (word_here src at b bs h, e) refl
        by false e true f = rw (word_here src at b bs h, e, f) (ap (λ (l : SheetLayer). (layer_block (plain w l)).word ∷ (layer_block (plain w l)).raw) (glass (eqb-true (kind b.word) 6 f)))
        by false e false f = rw (word_here src at b bs h, e, f) kept

    pub size_here : new_size src at ≡ suc (length (new_block w b).raw)
    unfolding new_block raw_words raws floats_after
    size_here = by (eqb (kind b.word) 1) refl (eqb (kind b.word) 6) refl
      where
        by : (t : Bool) → eqb (kind b.word) 1 ≡ t → (u : Bool) → eqb (kind b.word) 6 ≡ u → new_size src at ≡ suc (length (new_block w b).raw)
        by true e u f =
            let one : kind b.word ≡ 1 = eqb-true (kind b.word) 1 e in
            let s : length b.raw ≡ 2 * floats_after 1 = h.sized.0 ∙ ap (λ (m : ℕ). 2 * floats_after m) one in
            rw (word_here src at b bs h, one) (omega (arith, next_less))
        by false e true f = rw (word_here src at b bs h, e, f) refl
        by false e false f = rw (word_here src at b bs h, e, f) next_less

-- no block has more than eight raw words
pub next_most : (src : List ℕ) (at : ℕ) → (at ≤ next_place src at) × (next_place src at ≤ at + 9)
unfolding next_place raws floats_after
next_most src at = by (ltb at (count src)) (eqb k 2) (eqb k 3) (eqb k 4) (eqb k 6) (eqb k 7)
  where
    k : ℕ
    k = kind (word src at)

    by : (t a b c d e : Bool) → let n = cond t (at + suc (2 * cond (a || (b || c)) 3 (cond d 4 (cond e 1 0)))) at in (at ≤ n) × (n ≤ at + 9)
    by false a b c d e = omega arith
    by true true b c d e = omega arith
    by true false true c d e = omega arith
    by true false false true d e = omega arith
    by true false false false true e = omega arith
    by true false false false false true = omega arith
    by true false false false false false = omega arith

-- what has a kind stands before the last word
pub kind_inside : (src : List ℕ) (at k : ℕ) → kind (word src at) ≡ k → 0 < k → at < count src
unfolding word
kind_inside src at k e lt = by (ltb at (count src)) refl e
  where
    here : ℕ
    here = big_endian (get_or src (4 * at) 0) (get_or src (4 * at + 1) 0) (get_or src (4 * at + 2) 0) (get_or src (4 * at + 3) 0)

    by : (t : Bool) → ltb at (count src) ≡ t → kind (cond t here 0) ≡ k → at < count src
    by true e q = ltb-true at (count src) e
    by false e q = absurd (omega arith)

-- no block gains words
pub size_most : (src : List ℕ) (at : ℕ) → at + new_size src at ≤ next_place src at
unfolding next_place raws floats_after
size_most src at = by (eqb (kind (word src at)) 6) refl
  where
    glass : kind (word src at) ≡ 6 → at + 7 ≤ next_place src at
    glass e = let lt = kind_inside src at 6 e (omega arith) in rw (lt-ltb at (count src) lt, e) (omega arith)

    by : (t : Bool) → eqb (kind (word src at)) 6 ≡ t → at + cond t 7 (next_place src at - at) ≤ next_place src at
    by true e = glass (eqb-true (kind (word src at)) 6 e)
    by false e = omega (arith, (next_most src at).0)

-- a step goes on
next_later : (src : List ℕ) (at : ℕ) → at < count src → at < next_place src at
unfolding next_place
next_later src at lt = rw (lt-ltb at (count src) lt) (omega arith)

pub less_left : (src : List ℕ) (at q : ℕ) → at < count src → q ≡ next_place src at → count src - q < count src - at
less_left src at q lt e = omega (arith, next_later src at lt)

-- an OPEN has no raw words
open_next : (src : List ℕ) (at : ℕ) → kind (word src at) ≡ 1 → 1 ≡ next_place src at - at
unfolding next_place raws floats_after
open_next src at e = let lt = kind_inside src at 1 e (omega arith) in rw (lt-ltb at (count src) lt, e) (omega arith)

-- as many words as were counted
pub new_length : (w : Float) (src : List ℕ) (at : ℕ) → next_place src at ≤ count src → length (new_words w src at) ≡ new_size src at
unfolding new_words raw_words
new_length w src at le = by (eqb (kind (word src at)) 1) refl (eqb (kind (word src at)) 6) refl
  where
    many : length (take (next_place src at - at) (drop at (words_of src))) ≡ next_place src at - at
    many = length-take-le (next_place src at - at) (drop at (words_of src)) (omega (arith, length-drop at (words_of src), words_of_length src, le, (next_most src at).0))

    by : (t : Bool) → eqb (kind (word src at)) 1 ≡ t → (u : Bool) → eqb (kind (word src at)) 6 ≡ u → length (new_words w src at) ≡ new_size src at
    by true e u f = let k : kind (word src at) ≡ 1 = eqb-true (kind (word src at)) 1 e in rw k (open_next src at k)
    by false e true f = let k : kind (word src at) ≡ 6 = eqb-true (kind (word src at)) 6 f in rw k refl
    by false e false f = rw (e, f) many
