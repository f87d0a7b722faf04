-- 01 section 1: the words of a list of bytes. Definitions only.
use Rattle.std.specs.Prelude.{cond, List, [], ◌∷◌, ℕ, ◌+◌, ◌*◌, ◌/◌, ◌%◌, ◌^◌, ltb, length, get_or}
use Rattle.ieee.specs.Functions.{joined}

-- how many words there are
abbrev pub count : List ℕ → ℕ
count src = length src / 4

-- four bytes, high byte first
abbrev pub big_endian : ℕ → ℕ → ℕ → ℕ → ℕ
big_endian a b c d = a * 2 ^ 24 + b * 2 ^ 16 + c * 2 ^ 8 + d

-- the i-th word, counted from 0; 0 past the last
unfoldable pub word : List ℕ → ℕ → ℕ
word src i = cond (ltb i (count src))
    (big_endian (get_or src (4 * i) 0) (get_or src (4 * i + 1) 0) (get_or src (4 * i + 2) 0) (get_or src (4 * i + 3) 0)) 0

-- all of them
unfoldable pub words_of : List ℕ → List ℕ
words_of [] = []
words_of (a ∷ []) = []
words_of (a ∷ b ∷ []) = []
words_of (a ∷ b ∷ c ∷ []) = []
words_of (a ∷ b ∷ c ∷ d ∷ src) = big_endian a b c d ∷ words_of src

-- the top 4 bits and the low 28
abbrev pub kind : ℕ → ℕ
kind w = w / 2 ^ 28

abbrev pub payload : ℕ → ℕ
payload w = w % 2 ^ 28

-- the pattern of the float in the words i and i + 1, high word first
unfoldable pub float : List ℕ → ℕ → ℕ
float src i = joined (word src i) (word src (i + 1))
