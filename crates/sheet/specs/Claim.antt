-- What reading has to do with encoding, over all bytes, for both editions: what is read is the one well-formed sheet that encodes to the
-- bytes, and a fault is where the table 'Turned back' puts it. Types only; `proofs/` inhabits `GrammarClaim`.
use Rattle.std.specs.Prelude.{◌≡◌, ◌⊎◌, Bool, ◌&&◌, cond, ℕ, suc, ◌%◌, ◌≤◌, ◌<◌, T, eqb, leb, length, get_or}
use mathlib.Core.List.{List, Memᴰ}
use Rattle.sheet.specs.Words.{word, count}
use Rattle.sheet.specs.Blocks.{All, read, fault}
use Rattle.sheet.specs.Sheet.{Sheet, WellFormed, kind_word, blocks, words, encode, places}
use Rattle.sheet.specs.Read.{decode, no_block}

infixr 1 ◌⇔◌
-- both ways
abbrev pub ◌⇔◌ : Type 0 → Type 0 → Type 0
A ⇔ B = (A → B) × (B → A)

-- 01: any bytes of any length
abbrev pub Bytes : List ℕ → Type 0
Bytes src = All (λ (b : ℕ). b < 256) src

-- 01: 30,500 bytes. 02 slip 3: '4 reads that limit if the first word is 0x10000002'; slip 5: 'The edition 2 limit is 39,460 bytes.'
abbrev pub longest : List ℕ → ℕ
longest src = cond (eqb (word src 0) (kind_word 1 2)) 39460 30500

-- refusal 4 where it is not so: a multiple of 4, not under 36 and not over the longest
abbrev pub length_fits : List ℕ → Bool
length_fits src = eqb (length src % 4) 0 && (leb 36 (length src) && leb (length src) (longest src))

-- ---- agreement of a well-formed sheet with the first n words of some bytes
pub record Agrees (x : Sheet) (src : List ℕ) (n : ℕ) : Type 0 where
  pub formed : WellFormed x
  pub long : n ≤ length (words x)
  pub same : (i : ℕ) → i < n → get_or (words x) i 0 ≡ word src i

-- ---- the place of a fault
-- the least word at which no well-formed sheet agrees with the words before it and with this one
pub record OutOfGrammar (src : List ℕ) (place : ℕ) : Type 0 where
  pub inside : place < count src
  pub before : (x : Sheet) × Agrees x src place
  pub never : (x : Sheet) → Agrees x src (suc place) → ⊥

-- a well-formed sheet agrees with all the words and goes on. The place is that of its last kind word that is not past the end: the word
-- count where the
-- end stands just before a kind word (END missing), and else the kind word whose raw words run past the end
pub record CutOff (src : List ℕ) (place : ℕ) : Type 0 where
  pub sheet : Sheet
  pub agrees : Agrees sheet src (count src)
  pub longer : count src < length (words sheet)
  pub kind_place : Memᴰ place (places sheet)
  pub reached : place ≤ count src
  pub last : (q : ℕ) → Memᴰ q (places sheet) → q ≤ count src → q ≤ place

abbrev pub Fault : List ℕ → ℕ → Type 0
Fault src place = OutOfGrammar src place ⊎ CutOff src place

-- ---- a longest sheet of an edition
pub record Longest (edition : ℕ) : Type 0 where
  pub sheet : Sheet
  pub formed : WellFormed sheet
  pub edition_is : sheet.edition ≡ edition
  pub reaches : length (encode sheet) ≡ longest (encode sheet)

-- ---- the claim
pub record GrammarClaim : Type 0 where
  -- read exactly when the bytes are the encoding of a well-formed sheet
  pub reads : (src : List ℕ) → Bytes src → T (length_fits src) → (x : Sheet) → (decode src ≡ read x) ⇔ (WellFormed x × (encode x ≡ src))
  -- which is the only one, and whose length fits
  pub only : (x y : Sheet) → WellFormed x → WellFormed y → encode x ≡ encode y → x ≡ y
  pub fits : (x : Sheet) → WellFormed x → T (length_fits (encode x)) × Bytes (encode x)
  -- and some sheet of either edition is as long as one may be
  pub longest_one : Longest 1
  pub longest_two : Longest 2
  -- at fault exactly when no well-formed sheet encodes to the bytes, and where
  pub faults : (src : List ℕ) → Bytes src → T (length_fits src) → (place : ℕ) →
      (decode src ≡ fault place) ⇔ (((x : Sheet) → WellFormed x → encode x ≡ src → ⊥) × Fault src place)
  -- the places are those of the kind words: as many as blocks, and at each stands its block's kind word
  pub placed : (x : Sheet) →
      (length (places x) ≡ length (blocks x)) ×
      ((i : ℕ) → i < length (blocks x) → get_or (words x) (get_or (places x) i 0) 0 ≡ (get_or (blocks x) i no_block).word)
