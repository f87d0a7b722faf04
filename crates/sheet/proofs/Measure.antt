-- The words of some bytes as a list, and how long a well-formed sheet is. Assumes nothing.
use mathlib.Core.Path.{◌≡◌, refl, sym, ◌∙◌}
use mathlib.Core.Bool.{Bool, true, false, ◌&&◌, cond}
use mathlib.Core.Logic.{◌⊎◌, inl, inr}
use mathlib.Core.List.{List, [], ◌∷◌}
use Prim.Native.Nat.{ℕ, zero, suc, ◌+◌, ◌*◌, ◌/◌, ◌%◌, ◌^◌, ◌≤◌}
use native.Mathlib.Omega.{arith}
use lib.Dec.{T, eqb, leb, eqb→eq}
use lib.ListN.{length, get_or, length-append}
use borrow.Author.Tests.{le-ltb, eq-eqb, le-leb}
use Rattle.sheet.specs.Sheet.{bytes}
use Rattle.sheet.specs.Words.{word, count, big_endian, words_of}
use Rattle.sheet.proofs.WordBytes.{word_first, word_next, length_bytes, bytes_bytes, word_bytes, bytes_of}
use Rattle.sheet.specs.Blocks.{Block, All, Word, flat}
use Rattle.sheet.specs.Sheet.{SheetLayer, layer, cauchy, Tuning, keeps, tunes, SheetSurface, Sheet, GoodLayer, GoodTuning, GoodSurface, WellFormed, kind_word, raw_words, layer_block, surface_block, tuned_blocks, layers_blocks, surfaces_blocks, end_block, blocks, words, encode}
use Rattle.sheet.specs.Read.{Standing, at_open, sheet_grammar}
use Rattle.sheet.specs.Claim.{Bytes, longest, length_fits}
use Rattle.sheet.proofs.Lists.{all_append}
use Rattle.sheet.proofs.Forward.{In, sheet_in}

-- ---- the words of bytes
pub words_of_length : (src : List ℕ) → length (words_of src) ≡ count src
unfolding words_of
words_of_length [] = refl
words_of_length (a ∷ []) = refl
words_of_length (a ∷ b ∷ []) = refl
words_of_length (a ∷ b ∷ c ∷ []) = refl
words_of_length (a ∷ b ∷ c ∷ d ∷ src) = let ih : length (words_of src) ≡ length src / 4 = words_of_length src in omega arith

pub words_of_at : (src : List ℕ) (i : ℕ) → get_or (words_of src) i 0 ≡ word src i
unfolding words_of word
words_of_at [] i = rw (le-ltb i 0 (omega arith))
words_of_at (a ∷ []) i = rw (le-ltb i 0 (omega arith))
words_of_at (a ∷ b ∷ []) i = rw (le-ltb i 0 (omega arith))
words_of_at (a ∷ b ∷ c ∷ []) i = rw (le-ltb i 0 (omega arith))
words_of_at (a ∷ b ∷ c ∷ d ∷ src) zero = sym (word_first a b c d src)
words_of_at (a ∷ b ∷ c ∷ d ∷ src) (suc i) = words_of_at src i ∙ sym (word_next a b c d src i)

pub words_of_good : (src : List ℕ) → Bytes src → All Word (words_of src)
unfolding words_of
words_of_good [] h = tt
words_of_good (a ∷ []) h = tt
words_of_good (a ∷ b ∷ []) h = tt
words_of_good (a ∷ b ∷ c ∷ []) h = tt
words_of_good (a ∷ b ∷ c ∷ d ∷ src) h = (omega (arith, h.0, h.1.0, h.1.1.0, h.1.1.1.0), words_of_good src h.1.1.1.1)

pub words_of_bytes : (ws : List ℕ) → All Word ws → words_of (bytes ws) ≡ ws
unfolding words_of bytes
words_of_bytes [] h = refl
words_of_bytes (w ∷ ws) h = let e : big_endian (w / 2 ^ 24) (w / 2 ^ 16 % 256) (w / 2 ^ 8 % 256) (w % 256) ≡ w = omega (arith, h.0) in let ih = words_of_bytes ws h.1 in cc

pub bytes_words_of : (src : List ℕ) → Bytes src → length src ≡ 4 * count src → bytes (words_of src) ≡ src
bytes_words_of src bs e = bytes_of (words_of src) src bs (omega (arith, words_of_length src)) (λ i lt. words_of_at src i)

-- ---- the words of blocks
pub flat_good : (s : Standing) (bs : List Block) → In s bs → All Word (flat bs)
unfolding flat
flat_good s [] h = tt
flat_good s (b ∷ bs) h = (h.1.0.word, all_append b.raw (flat bs) h.1.0.raw (flat_good (sheet_grammar.after s b.word) bs h.1.1))

-- ---- lengths: a sheet of edition 1 has layers of 7 words, one of edition 2 layers of 9 words at the most and kinds 7 of 3
layers_long : (edition : ℕ) (ls : List SheetLayer) (more : List Block) → All (GoodLayer edition) ls
    → (length (flat (layers_blocks ls more)) ≤ 9 * length ls + length (flat more)) × (edition ≡ 1 → length (flat (layers_blocks ls more)) ≤ 7 * length ls + length (flat more))
unfolding flat layers_blocks raw_words
layers_long edition [] more g = (omega arith, λ e. omega arith)
layers_long edition (layer n k t ∷ ls) more g = let ih = layers_long edition ls more g.1 in (omega (arith, ih.0), λ e. omega (arith, ih.1 e))
layers_long edition (cauchy a b c t ∷ ls) more g = let ih = layers_long edition ls more g.1 in (omega (arith, ih.0), λ e. absurd (omega (arith, g.0.0)))

tuned_long : (edition : ℕ) (t : Tuning) (more : List Block) → GoodTuning edition t → (length (flat (tuned_blocks t more)) ≤ 3 + length (flat more)) × (edition ≡ 1 → length (flat (tuned_blocks t more)) ≤ length (flat more))
unfolding flat raw_words
tuned_long edition keeps more g = (omega arith, λ e. omega arith)
tuned_long edition (tunes v) more g = (omega arith, λ e. absurd (omega (arith, g.0)))

surfaces_long : (edition : ℕ) (ys : List SheetSurface) (more : List Block) → All (GoodSurface edition) ys
    → (length (flat (surfaces_blocks ys more)) ≤ 154 * length ys + length (flat more)) × (edition ≡ 1 → length (flat (surfaces_blocks ys more)) ≤ 119 * length ys + length (flat more))
unfolding flat surfaces_blocks raw_words
surfaces_long edition [] more g = (omega arith, λ e. omega arith)
surfaces_long edition (y ∷ ys) more g =
    let ih = surfaces_long edition ys more g.1 in
    let rest = surfaces_blocks ys more in
    let l = layers_long edition y.layers rest g.0.layers in
    let t = tuned_long edition y.tuning (surface_block y ∷ layers_blocks y.layers rest) g.0.tuning in
    (omega (arith, ih.0, l.0, t.0, g.0.few), λ e. omega (arith, ih.1 e, l.1 e, t.1 e, g.0.few))

least : (ys : List SheetSurface) (more : List Block) → length (flat more) ≤ length (flat (surfaces_blocks ys more))
unfolding flat surfaces_blocks layers_blocks
least [] more = omega arith
least (y ∷ ys) more = let ih = least ys more in let a = layers_least y.layers (surfaces_blocks ys more) in tuned_least y.tuning (surface_block y ∷ layers_blocks y.layers (surfaces_blocks ys more)) (omega (arith, length-append (surface_block y).raw (flat (layers_blocks y.layers (surfaces_blocks ys more)))))
  where
    layers_least : (ls : List SheetLayer) (more : List Block) → length (flat more) ≤ length (flat (layers_blocks ls more))
    layers_least [] more = omega arith
    layers_least (l ∷ ls) more = let ih = layers_least ls more in omega (arith, length-append (layer_block l).raw (flat (layers_blocks ls more)))

    tuned_least : (t : Tuning) (bs : List Block) → length (flat more) ≤ length (flat bs) → length (flat more) ≤ length (flat (tuned_blocks t bs))
    tuned_least keeps bs h = h
    tuned_least (tunes v) bs h = omega (arith, length-append (raw_words (v ∷ [])) (flat bs))

pub length_limits : (x : Sheet) → WellFormed x → (9 ≤ length (words x)) × ((length (words x) ≤ 9865) × (x.edition ≡ 1 → length (words x) ≤ 7625))
unfolding blocks flat raw_words
length_limits x h =
    let e = end_block (length x.surfaces) ∷ [] in
    let l = surfaces_long x.edition x.surfaces e h.surfaces in
    (omega (arith, least x.surfaces e), (omega (arith, l.0, h.few), λ q. omega (arith, l.1 q, h.few)))

-- ---- refusal 4
T_both : (a b : Bool) → T (a && b) → T a × T b
T_both true b t = (tt, t)
T_both false b t = absurd t

pub fits_count : (src : List ℕ) → T (length_fits src) → length src ≡ 4 * count src
fits_count src t =
    let a = T_both (eqb (length src % 4) 0) (leb 36 (length src) && leb (length src) (longest src)) t in
    omega (arith, eqb→eq (length src % 4) 0 a.0)

count_fits : (src : List ℕ) (n : ℕ) → length src ≡ 4 * n → 9 ≤ n → 4 * n ≤ longest src → T (length_fits src)
count_fits src n e h l = rw (eq-eqb (length src % 4) 0 (omega arith), le-leb 36 (length src) (omega arith), le-leb (length src) (longest src) (omega arith)) tt

-- a sheet begins with OPEN of its edition
pub first_word : (x : Sheet) → WellFormed x → word (encode x) 0 ≡ kind_word 1 x.edition
unfolding encode
first_word x h = word_bytes (words x) (flat_good at_open (blocks x) (sheet_in x h)) 0 ∙ opens
  where
    opens : get_or (words x) 0 0 ≡ kind_word 1 x.edition
    opens = unfold blocks flat in refl

pub encode_fits : (x : Sheet) → WellFormed x → T (length_fits (encode x)) × Bytes (encode x)
unfolding encode
encode_fits x h =
    let ws = words x in
    let l = length_limits x h in
    let g : All Word ws = flat_good at_open (blocks x) (sheet_in x h) in
    (count_fits (bytes ws) (length ws) (length_bytes ws) l.0 (rw (first_word x h) (under x.edition h.edition (length ws) l.1.0 l.1.1)), bytes_bytes ws g)
  where
    under : (edition : ℕ) → (edition ≡ 1) ⊎ (edition ≡ 2) → (n : ℕ) → n ≤ 9865 → (edition ≡ 1 → n ≤ 7625) → 4 * n ≤ cond (eqb (kind_word 1 edition) (kind_word 1 2)) 39460 30500
    under edition (inl e) n a b = rw e (omega (arith, b e))
    under edition (inr e) n a b = rw e (omega arith)
