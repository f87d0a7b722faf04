-- The words of a list of bytes, and the bytes of a list of words: each undoes the other.
use mathlib.Core.Path.{◌≡◌, refl, ◌∙◌}
use mathlib.Core.Bool.{Bool, true, false, cond}
use mathlib.Core.List.{List, [], ◌∷◌}
use Prim.Native.Nat.{ℕ, zero, suc, ◌+◌, ◌*◌, ◌/◌, ◌%◌, ◌^◌, ◌<◌}
use native.Mathlib.Omega.{arith}
use lib.Dec.{ltb, leb-suc-suc}
use lib.ListN.{length, get_or}
use borrow.Author.Tests.{lt-ltb, le-ltb}
use Rattle.sheet.specs.Blocks.{All, Word}
use Rattle.sheet.specs.Sheet.{bytes}
use Rattle.sheet.specs.Words.{word, count, big_endian}

abbrev pub Byte : ℕ → Type 0
Byte b = b < 256

-- ---- a word of four bytes and more
four_more : (n : ℕ) → suc (suc (suc (suc n))) / 4 ≡ suc (n / 4)
four_more n = omega arith

four_on : (i k : ℕ) → 4 * suc i + k ≡ suc (suc (suc (suc (4 * i + k))))
four_on i k = omega arith

four_on₀ : (i : ℕ) → 4 * suc i ≡ suc (suc (suc (suc (4 * i))))
four_on₀ i = omega arith

pub word_first : (a b c d : ℕ) (src : List ℕ) → word (a ∷ b ∷ c ∷ d ∷ src) 0 ≡ big_endian a b c d
unfolding word
word_first a b c d src = rw (four_more (length src)) (rw (lt-ltb 0 (suc (length src / 4)) (omega arith)))

pub word_next : (a b c d : ℕ) (src : List ℕ) (i : ℕ) → word (a ∷ b ∷ c ∷ d ∷ src) (suc i) ≡ word src i
unfolding word
word_next a b c d src i =
    rw (four_more (length src), leb-suc-suc (suc i) (length src / 4), four_on i 1, four_on i 2, four_on i 3, four_on₀ i)

-- ---- the words of bytes
pub byte_at : (src : List ℕ) → All Byte src → (i : ℕ) → get_or src i 0 < 256
byte_at [] h i = omega arith
byte_at (b ∷ src) h zero = h.0
byte_at (b ∷ src) h (suc i) = byte_at src h.1 i

pub word_lt : (src : List ℕ) → All Byte src → (i : ℕ) → word src i < 2 ^ 32
unfolding word
word_lt src h i = go (ltb i (count src))
  where
    go : (t : Bool) → cond t (big_endian (get_or src (4 * i) 0) (get_or src (4 * i + 1) 0) (get_or src (4 * i + 2) 0) (get_or src (4 * i + 3) 0)) 0 < 2 ^ 32
    go true = omega (arith, byte_at src h (4 * i), byte_at src h (4 * i + 1), byte_at src h (4 * i + 2), byte_at src h (4 * i + 3))
    go false = omega arith

-- ---- the bytes of words
pub length_bytes : (ws : List ℕ) → length (bytes ws) ≡ 4 * length ws
unfolding bytes
length_bytes [] = refl
length_bytes (w ∷ ws) = let ih : length (bytes ws) ≡ 4 * length ws = length_bytes ws in omega arith

pub bytes_bytes : (ws : List ℕ) → All Word ws → All Byte (bytes ws)
unfolding bytes
bytes_bytes [] h = tt
bytes_bytes (w ∷ ws) h = (omega (arith, h.0), (omega arith, (omega arith, (omega arith, bytes_bytes ws h.1))))

four_bytes : (w : ℕ) → w < 2 ^ 32 → big_endian (w / 2 ^ 24) (w / 2 ^ 16 % 256) (w / 2 ^ 8 % 256) (w % 256) ≡ w
four_bytes w h = omega arith

pub word_bytes : (ws : List ℕ) → All Word ws → (i : ℕ) → word (bytes ws) i ≡ get_or ws i 0
unfolding bytes word
word_bytes [] h i = past i
  where
    past : (i : ℕ) → word [] i ≡ 0
    past i = rw (le-ltb i 0 (omega arith))
word_bytes (w ∷ ws) h zero = word_first _ _ _ _ (bytes ws) ∙ four_bytes w h.0
word_bytes (w ∷ ws) h (suc i) = word_next _ _ _ _ (bytes ws) i ∙ word_bytes ws h.1 i

-- the bytes of the words of some bytes
four_words : (w a b c d : ℕ) → Byte a → Byte b → Byte c → Byte d → w ≡ big_endian a b c d → (w / 2 ^ 24 ≡ a) × (w / 2 ^ 16 % 256 ≡ b) × (w / 2 ^ 8 % 256 ≡ c) × (w % 256 ≡ d)
four_words w a b c d ha hb hc hd e = omega arith

pub bytes_of : (ws src : List ℕ) → All Byte src → length src ≡ 4 * length ws → ((i : ℕ) → i < length ws → get_or ws i 0 ≡ word src i) → bytes ws ≡ src
unfolding bytes
bytes_of [] [] h n same = refl
bytes_of [] (a ∷ src) h n same = absurd (omega arith)
bytes_of (w ∷ ws) [] h n same = absurd (omega arith)
bytes_of (w ∷ ws) (a ∷ []) h n same = absurd (omega arith)
bytes_of (w ∷ ws) (a ∷ b ∷ []) h n same = absurd (omega arith)
bytes_of (w ∷ ws) (a ∷ b ∷ c ∷ []) h n same = absurd (omega arith)
bytes_of (w ∷ ws) (a ∷ b ∷ c ∷ d ∷ src) h n same =
    let first = four_words w a b c d h.0 h.1.0 h.1.1.0 h.1.1.1.0 (same 0 (omega arith) ∙ word_first a b c d src) in
    let more : bytes ws ≡ src = bytes_of ws src h.1.1.1.1 (omega arith) (λ i lt. same (suc i) (omega arith) ∙ word_next a b c d src i) in
    cc
