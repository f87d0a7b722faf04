-- The trimmed part of a name (01, 'The rest'). Definitions only; proofs/Trimming.antt has the proof of the claim.
use Rattle.std.specs.Prelude.{◌≡◌, ℕ, suc, ◌+◌, ◌-◌, Bool, true, not, ◌&&◌, ◌||◌, cond, List, [], ◌∷◌, ◌++◌, reverse, T, leb, ltb, eqb, length, take, drop}
use Rattle.name_bytes.specs.declared.Span.{Span}

-- 0x09 to 0x0D and 0x20
abbrev pub blank : ℕ → Bool
blank b = leb 0x09 b && leb b 0x0D || eqb b 0x20

-- how many bytes from the first on pass a test, without a gap
unfoldable pub prefix : (ℕ → Bool) → List ℕ → ℕ
prefix test [] = 0
prefix test (b ∷ bs) = cond (test b) (suc (prefix test bs)) 0

-- how many bytes are left without the blank ones at the end
unfoldable pub kept : List ℕ → ℕ
kept s = length s - prefix blank (reverse s)

abbrev pub trim_start : List ℕ → List ℕ
trim_start s = drop (prefix blank s) s

abbrev pub trim_end : List ℕ → List ℕ
trim_end s = take (kept s) s

-- blank bytes go from both ends
unfoldable pub trimmed : List ℕ → List ℕ
trimmed s = trim_end (trim_start s)

-- its place in the name and its length; a name of nothing but blank bytes has an empty part at place 0
unfoldable pub span : List ℕ → Span
span s = record { place = cond (ltb (prefix blank s) (length s)) (prefix blank s) 0; len = length (trimmed s) }

unfoldable pub all_blank : List ℕ → Bool
all_blank [] = true
all_blank (b ∷ bs) = blank b && all_blank bs

-- What is trimmed: the name is what is cut, the part, and what is cut. What is cut is blank, the part neither begins nor ends blank, and
-- stands at its place.
pub record Trimmed (s part : List ℕ) (place : ℕ) : Type 0 where
  pub before : List ℕ
  pub after : List ℕ
  pub whole : s ≡ before ++ (part ++ after)
  pub blank_before : T (all_blank before)
  pub blank_after : T (all_blank after)
  pub begins : (b : ℕ) (bs : List ℕ) → part ≡ b ∷ bs → T (not (blank b))
  pub ends : (bs : List ℕ) (b : ℕ) → part ≡ bs ++ (b ∷ []) → T (not (blank b))
  pub stands : (b : ℕ) (bs : List ℕ) → part ≡ b ∷ bs → place ≡ length before
  pub empty : part ≡ [] → place ≡ 0

-- the claim, for every name
abbrev pub Trimming : Type 0
Trimming = (s : List ℕ) → Trimmed s (trimmed s) (span s).place

-- the trimmed part of a name that is lent at an address, a block and an offset: its address, which is further by the part's place, and its
-- bytes
abbrev pub part : ℕ × ℕ → List ℕ → (ℕ × ℕ) × List ℕ
part at s = ((at.0, (span s).place + at.1), trimmed s)

-- what is handed back: the trimmed part, with its place in the name
abbrev pub handed : ℕ × ℕ → List ℕ → ((ℕ × ℕ) × List ℕ) × ℕ
handed at s = (part at s, (span s).place)

-- a part's place and its length
abbrev pub span_of : List ℕ → ℕ → Span
span_of bytes place = record { place = place; len = length bytes }
