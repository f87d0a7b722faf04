-- Recorded answers, as oracle/README.md ("Records") lays them out: their words, and the words of an answer. Definitions only.
use Rattle.std.specs.Prelude.{Bool, false, cond, List, [], ◌∷◌, ℕ, ◌+◌, ◌-◌, ◌*◌, ◌/◌, ◌%◌, ◌^◌, eqb, ltb, length, set, take, drop, Float}
use Rattle.std.specs.Float.Ieee.{eq, to_bits}
use Rattle.std.specs.Float.{binary64}
use Rattle.sheet.specs.Words as Sheet
use Rattle.test_records.specs.declared.Header.{Header}

-- ---- from bytes
-- the i-th word, of eight bytes, high byte first, counted from 0; 0 past the last
abbrev pub word : List ℕ → ℕ → ℕ
word src i = Sheet.float src (2 * i)

-- its low half
abbrev pub small : List ℕ → ℕ → ℕ
small src i = Sheet.word src (2 * i + 1)

-- the bytes behind a length word; none where they do not all stand there
unfoldable pub behind : List ℕ → ℕ → List ℕ
behind src i =
    cond (ltb i (length src / 8))
    (cond (ltb (length src - (8 * i + 8)) (small src i)) [] (take (small src i) (drop (8 * i + 8) src)))
    []

-- a record's first word: the function, and the counts of argument and result words
abbrev pub header : List ℕ → Header
header src = record { function = Sheet.word src 0 / 2 ^ 16; args = Sheet.word src 0 % 2 ^ 16; results = Sheet.word src 1 / 2 ^ 16 }

-- the n words behind the first so many; none where they do not all stand there
unfoldable pub words_of : List ℕ → ℕ → ℕ → List ℕ
words_of body first n =
    cond (ltb (length body / 8) first) [] (cond (ltb (length body / 8 - first) n) [] (take (8 * n) (drop (8 * first) body)))

-- a record's argument words, and its result words behind those
abbrev pub arguments : Header → List ℕ → List ℕ
arguments h body = words_of body 0 h.args

abbrev pub results : Header → List ℕ → List ℕ
results h body = words_of body h.args h.results

-- ---- an answer
-- the pattern of a float; every NaN, which alone does not equal itself, has the same
unfoldable pub pattern : Float → ℕ
pattern x = cond (eq x x) (to_bits binary64 x) 0x7FF8_0000_0000_0000

-- a list of 256 words with the patterns of some floats from a place on; those past its end are dropped
unfoldable pub written : List ℕ → ℕ → List Float → List ℕ
written out at [] = out
written out at (x ∷ xs) = cond (ltb at 256) (written (set out at (pattern x)) (at + 1) xs) out

-- some words are all that are recorded, from the i-th on
unfoldable pub agree : List ℕ → List ℕ → ℕ → Bool
agree [] want i = eqb i (length want / 8)
agree (w ∷ ws) want i = cond (eqb w (word want i)) (agree ws want (i + 1)) false

-- the first n of some words are all that are recorded
abbrev pub recorded : List ℕ → ℕ → List ℕ → Bool
recorded got n want = cond (ltb (length got) n) false (agree (take n got) want 0)
