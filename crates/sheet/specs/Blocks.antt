-- Blocks: a kind word and the raw words that follow it. What a list of them says in words and where their kind words stand; a grammar of
-- kind words; and
-- the reader of any such grammar. Nothing here knows a kind or a length. Definitions only.
use Rattle.std.specs.Prelude.{◌≡◌, Bool, ◌&&◌, cond, List, [], ◌∷◌, ◌++◌, ℕ, zero, suc, ◌+◌, ◌^◌, ◌<◌, leb, length, take, drop}

-- of every element of a list
abbrev pub All : {A : Type 0} → (A → Type 0) → List A → Type 0
All P [] = Unit
All P (x ∷ xs) = P x × All P xs

pub record Block : Type 0 where
  pub word : ℕ
  pub raw : List ℕ

-- ---- the words, and the places of the kind words, counted from `at`
unfoldable pub flat : List Block → List ℕ
flat [] = []
flat (b ∷ bs) = b.word ∷ (b.raw ++ flat bs)

unfoldable pub starts : ℕ → List Block → List ℕ
starts at [] = []
starts at (b ∷ bs) = at ∷ starts (at + suc (length b.raw)) bs

-- ---- a grammar: where one stands between two blocks, which kind words may come there, where one stands after it; whether the list may end
-- there; and how
-- many raw words follow a kind word. THE ONE PLACE of every block length
pub record Grammar : Type 1 where
  pub Standing : Type 0
  pub may_end : Standing → Bool
  pub may : Standing → ℕ → Bool
  pub after : Standing → ℕ → Standing
  pub raws : ℕ → ℕ

abbrev pub Word : ℕ → Type 0
Word w = w < 2 ^ 32

pub record GoodBlock (g : Grammar) (b : Block) : Type 0 where
  pub word : Word b.word
  pub raw : All Word b.raw
  pub size : length b.raw ≡ g.raws b.word

-- a list of blocks that the grammar gives from a standing on
abbrev pub InGrammar : (g : Grammar) → g.Standing → List Block → Type 0
InGrammar g s [] = g.may_end s ≡ Bool.true
InGrammar g s (b ∷ bs) = (g.may s b.word ≡ Bool.true) × (GoodBlock g b × InGrammar g (g.after s b.word) bs)

-- ---- the reader
-- what is read, or the place of the word at fault
pub data Result (A : Type 0) : Type 0 where
  read : A → Result A
  fault : ℕ → Result A

abbrev pub mapped : {A B : Type 0} → (A → B) → Result A → Result B
mapped f (read a) = read (f a)
mapped f (fault place) = fault place

-- the blocks of some words, the first of which has the place `at`. A kind word that may not come there, or with raw words past the end: its
-- own place; an end
-- where the list may not end: the place after the last word. `fuel` is more than the words
unfoldable pub blocks_from : (g : Grammar) → ℕ → g.Standing → ℕ → List ℕ → Result (List Block)
blocks_from g zero s at ws = fault at
blocks_from g (suc fuel) s at [] = cond (g.may_end s) (read []) (fault at)
blocks_from g (suc fuel) s at (w ∷ ws) =
    let n = g.raws w in
    cond (g.may s w && leb n (length ws))
    (mapped (λ bs. record { word = w; raw = take n ws } ∷ bs) (blocks_from g fuel (g.after s w) (at + suc n) (drop n ws)))
    (fault at)
