-- Blocks that stand in some bytes from a place on: the one law that every walk over a sheet cites. Assumes nothing.
use mathlib.Core.Path.{◌≡◌, refl, sym, ap, ◌∙◌, subst}
use mathlib.Core.Bool.{true, false}
use mathlib.Core.List.{List, [], ◌∷◌, ◌++◌}
use Prim.Native.Nat.{ℕ, zero, suc, ◌+◌, ◌*◌, ◌^◌, ◌≤◌, ◌<◌}
use native.Mathlib.Omega.{arith}
use lib.Dec.{T}
use mir.Syntax.{w8}
use mir.Val.{Fits}
use lib.ListN.{length, get_or, drop, length-append, length-drop, get_or-append}
use lib.Seq.{drop-drop, drop_at, drop-cons}
use borrow.Author.Tests.{lt-ltb}
use Rattle.ieee.specs.Functions.{joined}
use Rattle.sheet.specs.Words.{word, count, kind, payload, float, words_of}
use Rattle.sheet.specs.Blocks.{Block, All, flat, read}
use Rattle.sheet.specs.Sheet.{SheetLayer, layer, cauchy, Tuning, keeps, tunes, SheetSurface, no_surface, nth, Sheet, GoodSurface, WellFormed, raw_words, block, layer_block, surface_block, tuned_blocks, layers_blocks, surfaces_blocks, end_block, blocks, words, encode}
use Rattle.sheet.specs.Read.{floats_after, raws, layer_kind, numbers, number, decode, at_open}
use Rattle.sheet.specs.Claim.{Bytes, length_fits}
use Rattle.sheet.specs.Internal.{next_place, place_on, layer_run, layer_at, tuning_at, surface_at, layers_at, onto, begin, place}
use Rattle.sheet.proofs.KindWords.{numbers_raw, kind_of, payload_of, raw_length}
use Rattle.sheet.proofs.Forward.{small_edition, sheet_in}
use Rattle.sheet.proofs.Measure.{words_of_length, words_of_at, words_of_bytes, flat_good}
use Rattle.sheet.proofs.Claim.{grammar_claim}

-- ---- the law
abbrev pub Sized : Block → Type 0
Sized b = length b.raw ≡ raws b.word

-- from a place on stand these blocks and nothing else
pub record Stands (src : List ℕ) (at : ℕ) (bs : List Block) : Type 0 where
  pub words : drop at (words_of src) ≡ flat bs
  pub sized : All Sized bs

-- ---- one block
behind : (at : ℕ) (ws : List ℕ) (w : ℕ) (more : List ℕ) → drop at ws ≡ w ∷ more → (j : ℕ) → get_or ws (at + j) 0 ≡ get_or (w ∷ more) j 0
behind zero ws w more e j = ap (λ (l : List ℕ). get_or l (0 + j) 0) e ∙ ap (λ (i : ℕ). get_or (w ∷ more) i 0) (none j)
  where
    none : (j : ℕ) → 0 + j ≡ j
    none j = omega arith
behind (suc at) [] w more e j = absurd (let z : ◌≡◌ {A = ℕ} 0 1 = cc in omega arith)
behind (suc at) (v ∷ ws) w more e j = ap (λ (i : ℕ). get_or (v ∷ ws) i 0) (up at j) ∙ behind at ws w more e j
  where
    up : (a b : ℕ) → suc a + b ≡ suc (a + b)
    up a b = omega arith

module _ (src : List ℕ) (at : ℕ) (b : Block) (bs : List Block) (h : Stands src at (b ∷ bs)) where
  there : drop at (words_of src) ≡ b.word ∷ (b.raw ++ flat bs)
  unfolding flat
  there = h.words

  pub inside : at + length b.raw < count src
  inside =
      let l = length-drop at (words_of src) in
      let n : length (drop at (words_of src)) ≡ suc (length (b.raw ++ flat bs)) = ap length there in
      omega (arith, words_of_length src, length-append b.raw (flat bs))

  pub word_here : word src at ≡ b.word
  word_here = sym (words_of_at src at) ∙ ap (λ (i : ℕ). get_or (words_of src) i 0) (sym (none at)) ∙ behind at (words_of src) b.word (b.raw ++ flat bs) there 0
    where
      none : (j : ℕ) → j + 0 ≡ j
      none j = omega arith

  pub raw_here : (j : ℕ) → j < length b.raw → word src (at + suc j) ≡ get_or b.raw j 0
  raw_here j lt = sym (words_of_at src (at + suc j)) ∙ behind at (words_of src) b.word (b.raw ++ flat bs) there (suc j) ∙ get_or-append b.raw (flat bs) 0 j lt

  pub next_is : next_place src at ≡ at + suc (length b.raw)
  unfolding next_place
  next_is = rw (lt-ltb at (count src) (omega (arith, inside)), word_here) (ap (λ (n : ℕ). at + suc n) (sym h.sized.0))

  pub next_stands : Stands src (next_place src at) bs
  unfolding flat
  next_stands = record {
    words =
        ap (λ (i : ℕ). drop i (words_of src)) next_is
        ∙ sym (drop-drop (suc (length b.raw)) at (words_of src))
        ∙ ap (drop (suc (length b.raw))) there
        ∙ drop_at b.raw (flat bs) (length b.raw) refl;
    sized = h.sized.1;
  }

-- where no block is left, no word is
pub ends_here : (src : List ℕ) (at : ℕ) → Stands src at [] → count src ≤ at
unfolding flat
ends_here src at h = let n : length (drop at (words_of src)) ≡ 0 = ap length h.words in omega (arith, length-drop at (words_of src), words_of_length src)

-- ---- its floats
halves : (raw : List ℕ) (i : ℕ) → suc (2 * i) < length raw → joined (get_or raw (2 * i) 0) (get_or raw (suc (2 * i)) 0) ≡ get_or (numbers raw) i 0
unfolding numbers
halves [] i lt = absurd (omega arith)
halves (a ∷ []) i lt = absurd (omega arith)
halves (a ∷ b ∷ raw) zero lt = refl
halves (a ∷ b ∷ raw) (suc i) lt = ap (λ (j : ℕ). joined (get_or (a ∷ b ∷ raw) j 0) (get_or (a ∷ b ∷ raw) (suc j) 0)) (two i) ∙ halves raw i (omega arith)
  where
    two : (i : ℕ) → 2 * suc i ≡ suc (suc (2 * i))
    two i = omega arith

pub float_here : (src : List ℕ) (at : ℕ) (b : Block) (bs : List Block) → Stands src at (b ∷ bs) → (i j : ℕ) → j ≡ suc (2 * i) → suc (2 * i) < length b.raw → float src (at + j) ≡ number b i
unfolding float
float_here src at b bs h i j e lt =
    ap (λ (k : ℕ). joined (word src (at + k)) (word src (at + k + 1))) e
    ∙ ap (λ (k : ℕ). joined (word src (at + suc (2 * i))) (word src k)) (one at (2 * i))
    ∙ (λ k. joined (raw_here src at b bs h (2 * i) (omega arith) k) (raw_here src at b bs h (suc (2 * i)) lt k))
    ∙ halves b.raw i lt
  where
    one : (a n : ℕ) → a + suc n + 1 ≡ a + suc (suc n)
    one a n = omega arith

-- the i-th float of a block that is made of them
module _ (src : List ℕ) (at k p : ℕ) (fs : List ℕ) (bs : List Block) (h : Stands src at (block k p fs ∷ bs)) where
  pub made_float : (i j : ℕ) → j ≡ suc (2 * i) → i < length fs → float src (at + j) ≡ get_or fs i 0
  made_float i j e lt = float_here src at (block k p fs) bs h i j e (omega (arith, raw_length fs)) ∙ ap (λ (l : List ℕ). get_or l i 0) (numbers_raw fs)

-- ---- layers
layer_here : (src : List ℕ) (at : ℕ) (l : SheetLayer) (bs : List Block) → Stands src at (layer_block l ∷ bs) → layer_at src at ≡ l
layer_here src at (layer n k t) bs h =
    let f : (i j : ℕ) → j ≡ suc (2 * i) → i < 3 → float src (at + j) ≡ get_or (n ∷ k ∷ t ∷ []) i 0 = made_float src at 4 0 (n ∷ k ∷ t ∷ []) bs h in
    rw (word_here src at (layer_block (layer n k t)) bs h) (λ i. layer (f 0 1 refl (omega arith) i) (f 1 3 refl (omega arith) i) (f 2 5 refl (omega arith) i))
layer_here src at (cauchy a b c t) bs h =
    let f : (i j : ℕ) → j ≡ suc (2 * i) → i < 4 → float src (at + j) ≡ get_or (a ∷ b ∷ c ∷ t ∷ []) i 0 = made_float src at 6 0 (a ∷ b ∷ c ∷ t ∷ []) bs h in
    rw (word_here src at (layer_block (cauchy a b c t)) bs h) (λ i. cauchy (f 0 1 refl (omega arith) i) (f 1 3 refl (omega arith) i) (f 2 5 refl (omega arith) i) (f 3 7 refl (omega arith) i))

pub record LayersHere (src : List ℕ) (at : ℕ) (ls : List SheetLayer) (more : List Block) : Type 0 where
  pub layers : layers_at src at (length ls) ≡ ls
  pub beyond : Stands src (place_on src at (length ls)) more

pub layers_here : (src : List ℕ) (at : ℕ) (ls : List SheetLayer) (more : List Block) → Stands src at (layers_blocks ls more) → LayersHere src at ls more
unfolding layers_blocks layers_at place_on
layers_here src at [] more h = record { layers = refl; beyond = h }
layers_here src at (l ∷ ls) more h =
    let again = layers_here src (next_place src at) ls more (next_stands src at (layer_block l) (layers_blocks ls more) h) in
    record { layers = λ i. layer_here src at l (layers_blocks ls more) h i ∷ again.layers i; beyond = again.beyond }

-- a block that is no layer ends a run of them
abbrev pub Ends : List Block → Type 0
Ends [] = ⊥
Ends (b ∷ bs) = layer_kind 2 (kind b.word) ≡ false

kind_of_layer : (l : SheetLayer) → layer_kind 2 (kind (layer_block l).word) ≡ true
kind_of_layer (layer n k t) = refl
kind_of_layer (cauchy a b c t) = refl

run_here : (m : ℕ) (src : List ℕ) (at : ℕ) (b : Block) (ls : List SheetLayer) (more : List Block) → Stands src at (b ∷ layers_blocks ls more) → length ls ≤ m → Ends more → layer_run m src at ≡ length ls
unfolding layers_blocks layer_run
run_here zero src at b [] more h le e = refl
run_here zero src at b (l ∷ ls) more h le e = absurd (omega arith)
run_here (suc m) src at b [] [] h le e = absurd e
run_here (suc m) src at b [] (c ∷ more) h le e =
    let w = word_here src (next_place src at) c more (next_stands src at b (c ∷ more) h) in
    rw (w, e) refl
run_here (suc m) src at b (l ∷ ls) more h le e =
    let n = next_stands src at b (layer_block l ∷ layers_blocks ls more) h in
    let w = word_here src (next_place src at) (layer_block l) (layers_blocks ls more) n in
    rw (w, kind_of_layer l) (ap suc (run_here m src (next_place src at) (layer_block l) ls more n (omega arith) e))

-- ---- SURFACEs
pub surfaces_end : (edition n : ℕ) (ys : List SheetSurface) → n < 2 ^ 28 → All (GoodSurface edition) ys → Ends (surfaces_blocks ys (end_block n ∷ []))
unfolding surfaces_blocks
surfaces_end edition n [] lt g = ap (layer_kind 2) (kind_of 5 n lt)
surfaces_end edition n (y ∷ ys) lt g = tuned_end y.tuning (surface_block y) (layers_blocks y.layers (surfaces_blocks ys (end_block n ∷ []))) (ap (layer_kind 2) (kind_of 3 y.payload (omega (arith, g.0.payload))))
  where
    tuned_end : (t : Tuning) (b : Block) (bs : List Block) → layer_kind 2 (kind b.word) ≡ false → Ends (tuned_blocks t (b ∷ bs))
    tuned_end keeps b bs e = e
    tuned_end (tunes v) b bs e = refl

-- the kind 7 before a SURFACE, if there is one
pub record TuningHere (src : List ℕ) (at : ℕ) (t : Tuning) (more : List Block) : Type 0 where
  pub tuning : tuning_at src at ≡ t
  pub beyond : Stands src (onto src at) more

tuning_here : (src : List ℕ) (at : ℕ) (t : Tuning) (b : Block) (bs : List Block) → kind b.word ≡ 3 → Stands src at (tuned_blocks t (b ∷ bs)) → TuningHere src at t (b ∷ bs)
unfolding onto
tuning_here src at keeps b bs k h = let e : kind (word src at) ≡ 3 = ap kind (word_here src at b bs h) ∙ k in record { tuning = rw e refl; beyond = rw e h }
tuning_here src at (tunes v) b bs k h =
    let w = word_here src at (block 7 0 (v ∷ [])) (b ∷ bs) h in
    record {
      tuning = rw w (ap tunes (made_float src at 7 0 (v ∷ []) (b ∷ bs) h 0 1 refl (omega arith)));
      beyond = rw w (next_stands src at (block 7 0 (v ∷ [])) (b ∷ bs) h);
    }

-- the SURFACE y stands at a place with its layers, and `more` after them
pub record SurfaceHere (src : List ℕ) (at : ℕ) (y : SheetSurface) (more : List Block) : Type 0 where
  pub kind : kind (word src at) ≡ 3
  pub inside : at + 6 < count src
  pub value : (ls : List SheetLayer) → surface_at src at ls ≡ record { tuning = keeps; payload = y.payload; n_incident = y.n_incident; n_substrate = y.n_substrate; angle = y.angle; layers = ls }
  pub run : layer_run 16 src at ≡ length y.layers
  pub layers : layers_at src (next_place src at) (length y.layers) ≡ y.layers
  pub beyond : Stands src (place_on src at (suc (length y.layers))) more

pub surface_here : (src : List ℕ) (at edition n : ℕ) (y : SheetSurface) (ys : List SheetSurface) → n < 2 ^ 28 → All (GoodSurface edition) (y ∷ ys) → Stands src at (surface_block y ∷ layers_blocks y.layers (surfaces_blocks ys (end_block n ∷ [])))
    → SurfaceHere src at y (surfaces_blocks ys (end_block n ∷ []))
unfolding place_on raw_words
surface_here src at edition n y ys lt g h =
    let rest = surfaces_blocks ys (end_block n ∷ []) in
    let ls = layers_blocks y.layers rest in
    let b = surface_block y in
    let small : y.payload < 2 ^ 28 = omega (arith, g.0.payload) in
    let w = word_here src at b ls h in
    let all = layers_here src (next_place src at) y.layers rest (next_stands src at b ls h) in
    let f : (i j : ℕ) → j ≡ suc (2 * i) → i < 3 → float src (at + j) ≡ get_or (y.n_incident ∷ y.n_substrate ∷ y.angle ∷ []) i 0 = made_float src at 3 y.payload (y.n_incident ∷ y.n_substrate ∷ y.angle ∷ []) ls h in
    record {
      kind = ap kind w ∙ kind_of 3 y.payload small;
      inside = inside src at b ls h;
      value = λ l i. record {
        tuning = keeps;
        payload = (ap payload w ∙ payload_of 3 y.payload small) i;
        n_incident = f 0 1 refl (omega arith) i;
        n_substrate = f 1 3 refl (omega arith) i;
        angle = f 2 5 refl (omega arith) i;
        layers = l;
      };
      run = run_here 16 src at b y.layers rest h g.0.few (surfaces_end edition n ys lt g.1);
      layers = all.layers;
      beyond = all.beyond;
    }

-- the kind 7 before it, and the SURFACE
pub tuned_here : (src : List ℕ) (at edition n : ℕ) (y : SheetSurface) (ys : List SheetSurface) → n < 2 ^ 28 → All (GoodSurface edition) (y ∷ ys) → Stands src at (surfaces_blocks (y ∷ ys) (end_block n ∷ []))
    → (tuning_at src at ≡ y.tuning) × SurfaceHere src (onto src at) y (surfaces_blocks ys (end_block n ∷ []))
unfolding surfaces_blocks
tuned_here src at edition n y ys lt g h =
    let t = tuning_here src at y.tuning (surface_block y) (layers_blocks y.layers (surfaces_blocks ys (end_block n ∷ []))) (kind_of 3 y.payload (omega (arith, g.0.payload))) h in
    (t.tuning, surface_here src (onto src at) edition n y ys lt g t.beyond)

-- ---- the whole sheet
pub record Standing (src : List ℕ) (x : Sheet) : Type 0 where
  pub formed : WellFormed x
  pub stands : Stands src 0 (blocks x)

sized : (k p : ℕ) (fs : List ℕ) → p < 2 ^ 28 → length fs ≡ floats_after k → Sized (block k p fs)
unfolding raws
sized k p fs lt e = raw_length fs ∙ ap (λ (n : ℕ). 2 * n) (e ∙ ap floats_after (sym (kind_of k p lt)))

layers_sized : (ls : List SheetLayer) (more : List Block) → All Sized more → All Sized (layers_blocks ls more)
unfolding layers_blocks floats_after
layers_sized [] more h = h
layers_sized (layer n k t ∷ ls) more h = (sized 4 0 (n ∷ k ∷ t ∷ []) (omega arith) refl, layers_sized ls more h)
layers_sized (cauchy a b c t ∷ ls) more h = (sized 6 0 (a ∷ b ∷ c ∷ t ∷ []) (omega arith) refl, layers_sized ls more h)

surfaces_sized : (edition : ℕ) (ys : List SheetSurface) (more : List Block) → All (GoodSurface edition) ys → All Sized more → All Sized (surfaces_blocks ys more)
unfolding surfaces_blocks floats_after
surfaces_sized edition [] more g h = h
surfaces_sized edition (y ∷ ys) more g h =
    tuned_sized y.tuning (surface_block y ∷ layers_blocks y.layers (surfaces_blocks ys more)) (sized 3 y.payload (y.n_incident ∷ y.n_substrate ∷ y.angle ∷ []) (omega (arith, g.0.payload)) refl, layers_sized y.layers (surfaces_blocks ys more) (surfaces_sized edition ys more g.1 h))
  where
    tuned_sized : (t : Tuning) (bs : List Block) → All Sized bs → All Sized (tuned_blocks t bs)
    tuned_sized keeps bs h = h
    tuned_sized (tunes v) bs h = (sized 7 0 (v ∷ []) (omega arith) refl, h)

blocks_sized : (x : Sheet) → WellFormed x → All Sized (blocks x)
unfolding blocks floats_after
blocks_sized x h =
    (sized 1 x.edition [] (small_edition x.edition h.edition) refl, (sized 2 0 (x.wavelength ∷ x.s ∷ x.p ∷ []) (omega arith) refl, surfaces_sized x.edition x.surfaces (end_block (length x.surfaces) ∷ []) h.surfaces (sized 5 (length x.surfaces) [] (omega (arith, h.few)) refl, tt)))

-- what is read of some bytes stands in them
pub standing : (src : List ℕ) → Bytes src → T (length_fits src) → (x : Sheet) → decode src ≡ read x → Standing src x
unfolding encode
standing src bs t x e =
    let g = (grammar_claim.reads src bs t x).0 e in
    let f = g.0 in
    let w : words_of (encode x) ≡ words x = words_of_bytes (words x) (flat_good at_open (blocks x) (sheet_in x f)) in
    record { formed = f; stands = record { words = ap words_of (sym g.1) ∙ w; sized = blocks_sized x f } }

-- the BEAM, and the SURFACEs by their number
module _ (src : List ℕ) (x : Sheet) (h : Standing src x) where
  pub beam_stands : Stands src (next_place src 0) (block 2 0 (x.wavelength ∷ x.s ∷ x.p ∷ []) ∷ surfaces_blocks x.surfaces (end_block (length x.surfaces) ∷ []))
  unfolding blocks
  beam_stands = next_stands src 0 (block 1 x.edition []) _ h.stands

  all_good : (i : ℕ) (ys : List SheetSurface) → All (GoodSurface x.edition) ys → All (GoodSurface x.edition) (drop i ys)
  all_good zero ys g = g
  all_good (suc i) [] g = tt
  all_good (suc i) (y ∷ ys) g = all_good i ys g.1

  few : length x.surfaces < 2 ^ 28
  few = omega (arith, h.formed.few)

  abbrev left : ℕ → List Block
  left i = surfaces_blocks (drop i x.surfaces) (end_block (length x.surfaces) ∷ [])

  module _ (at i : ℕ) (lt : i < length x.surfaces) (s : Stands src at (left i)) where
    first : (tuning_at src at ≡ (nth x.surfaces i).tuning) × SurfaceHere src (onto src at) (nth x.surfaces i) (left (suc i))
    first =
        let c = drop-cons x.surfaces i no_surface lt in
        tuned_here src at x.edition (length x.surfaces) (nth x.surfaces i) (drop (suc i) x.surfaces) few (subst (All (GoodSurface x.edition)) c (all_good i x.surfaces h.formed.surfaces))
        (subst (λ (ys : List SheetSurface). Stands src at (surfaces_blocks ys (end_block (length x.surfaces) ∷ []))) c s)

    pub tuning_i : tuning_at src at ≡ (nth x.surfaces i).tuning
    tuning_i = first.0

    pub surface_i : SurfaceHere src (onto src at) (nth x.surfaces i) (left (suc i))
    surface_i = first.1

    pub surface_on : Stands src (place_on src (onto src at) (suc (layer_run 16 src (onto src at)))) (left (suc i))
    surface_on = rw surface_i.run surface_i.beyond

  pub begin_stands : (i : ℕ) → i ≤ length x.surfaces → Stands src (begin src i) (left i)
  unfolding begin place_on
  begin_stands zero le = next_stands src (next_place src 0) _ _ beam_stands
  begin_stands (suc i) le = surface_on (begin src i) i le (begin_stands i (omega arith))

  pub placed : (i : ℕ) → i < length x.surfaces → SurfaceHere src (place src i) (nth x.surfaces i) (left (suc i))
  placed i lt = surface_i (begin src i) i lt (begin_stands i (omega arith))

-- every element of a slice of bytes is one
abbrev pub Known : List ℕ → Type 0
Known src = (i : ℕ) → Fits w8 (get_or src i 0)

pub bytes_from : (src : List ℕ) → Known src → Bytes src
bytes_from [] h = tt
bytes_from (b ∷ src) h = ((h 0).fits, bytes_from src (λ i. h (suc i)))
