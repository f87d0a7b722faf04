-- The words of the new sheet are those of the old one but for OPEN's and those of kinds 6. Assumes nothing.
use mathlib.Core.Path.{◌≡◌, refl, sym, ap, ◌∙◌, subst}
use mathlib.Core.List.{List, [], ◌∷◌, ◌++◌, map}
use Prim.Native.Nat.{ℕ, zero, suc, ◌+◌, ◌≤◌, ◌<◌}
use native.Mathlib.Omega.{arith}
use native.Mathlib.Nat.{zero-add}
use lib.ListN.{length, get_or, length-map, get_or-append, get_or-map}
use lib.Ieee.{Float}
use borrow.Author.Tests.{eq-eqb, ne_eqb}
use Rattle.sheet.specs.Words.{kind}
use Rattle.sheet.specs.Blocks.{Block, flat, starts}
use Rattle.sheet.specs.Sheet.{Sheet, WellFormed, block, blocks}
use Rattle.sheet_values.specs.Values.{value}
use Rattle.sheet_edition_1.specs.Edition.{translated}
use Rattle.sheet_edition_1.proofs.NewBlocks.{new_block, new_sheet}
use Rattle.edition_1_claim.specs.Claim.{nth_block, word_at, Unchanged}

abbrev none : Block
none = record { word = 0; raw = [] }

abbrev at : List Block → ℕ → Block
at bs i = get_or bs i none

abbrev all_words : Block → List ℕ
all_words b = b.word ∷ b.raw

-- ---- a block's words stand from its place on
past : (xs ys : List ℕ) (k : ℕ) → get_or (xs ++ ys) (length xs + k) 0 ≡ get_or ys k 0
past [] ys k = ap (λ (n : ℕ). get_or ys n 0) (zero-add k)
past (x ∷ xs) ys k = ap (λ (n : ℕ). get_or (x ∷ (xs ++ ys)) n 0) (let e : suc (length xs) + k ≡ suc (length xs + k) = omega arith in e) ∙ past xs ys k

shift : (from : ℕ) (bs : List Block) (i : ℕ) → i < length bs → get_or (starts from bs) i 0 ≡ from + get_or (starts 0 bs) i 0
unfolding starts
shift from [] i lt = absurd (omega arith)
shift from (b ∷ bs) zero lt = omega arith
shift from (b ∷ bs) (suc i) lt =
    let u = shift (from + suc (length b.raw)) bs i (omega arith) in
    let v = shift (0 + suc (length b.raw)) bs i (omega arith) in
    omega (arith, u, v)

front : (b : Block) (bs : List Block) (j : ℕ) → j ≤ length b.raw → get_or (flat (b ∷ bs)) j 0 ≡ get_or (all_words b) j 0
unfolding flat
front b bs zero le = refl
front b bs (suc j) le = get_or-append b.raw (flat bs) 0 j (omega arith)

stand : (bs : List Block) (i j : ℕ) → i < length bs → j ≤ length (at bs i).raw → get_or (flat bs) (get_or (starts 0 bs) i 0 + j) 0 ≡ get_or (all_words (at bs i)) j 0
unfolding starts flat
stand [] i j lt le = absurd (omega arith)
stand (b ∷ bs) zero j lt le = ap (λ (n : ℕ). get_or (flat (b ∷ bs)) n 0) (zero-add j) ∙ front b bs j le
stand (b ∷ bs) (suc i) j lt le =
    let s = get_or (starts 0 bs) i 0 in
    let u = shift (0 + suc (length b.raw)) bs i (omega arith) in
    let e : get_or (starts (0 + suc (length b.raw)) bs) i 0 + j ≡ suc (length b.raw + (s + j)) = omega (arith, u) in
    ap (λ (n : ℕ). get_or (b.word ∷ (b.raw ++ flat bs)) n 0) e ∙ past b.raw (flat bs) (s + j) ∙ stand bs i j (omega arith) le

module _ (x : Sheet) (h : WellFormed x) where
  abbrev w : Float
  w = value x.wavelength

  abbrev new : Sheet
  new = translated x

  becomes : (i : ℕ) → nth_block new i ≡ new_block w (nth_block x i)
  unfolding new_block
  becomes i = ap (λ (bs : List Block). at bs i) (sym (new_sheet x h)) ∙ get_or-map (new_block w) (blocks x) i none

  many : length (blocks new) ≡ length (blocks x)
  many = ap length (sym (new_sheet x h)) ∙ length-map (blocks x) (new_block w)

  opens : (i : ℕ) → kind (nth_block x i).word ≡ 1 → nth_block new i ≡ block 1 1 []
  unfolding new_block
  opens i e = becomes i ∙ rw (eq-eqb (kind (nth_block x i).word) 1 e)

  others : (i : ℕ) → (kind (nth_block x i).word ≡ 1 → ⊥) → (kind (nth_block x i).word ≡ 6 → ⊥) → nth_block new i ≡ nth_block x i
  unfolding new_block
  others i e f = becomes i ∙ rw (ne_eqb (kind (nth_block x i).word) 1 e, ne_eqb (kind (nth_block x i).word) 6 f) refl

  each_word : (i j : ℕ) → i < length (blocks x) → (kind (nth_block x i).word ≡ 1 → ⊥) → (kind (nth_block x i).word ≡ 6 → ⊥) → j ≤ length (nth_block x i).raw → word_at new i j ≡ word_at x i j
  each_word i j lt e f le =
      let same = others i e f in
      stand (blocks new) i j (omega (arith, many)) (subst (λ (b : Block). j ≤ length b.raw) (sym same) le)
      ∙ ap (λ (b : Block). get_or (all_words b) j 0) same
      ∙ sym (stand (blocks x) i j lt le)

  pub unchanged_words : Unchanged x (translated x)
  unchanged_words = record { many = many; opens = opens; others = others; each_word = each_word }
