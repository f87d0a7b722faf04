-- SurfaceCoating::from_format_name and to_format_name of thin_film.rs, on bytes (01, 'The rest'; refusal 2). Definitions only.
use Rattle.std.specs.Prelude.{ℕ, Bool, ◌||◌, cond, List, [], ◌∷◌, map, ltb, length, Option, None, Some}
use Rattle.refusal.specs.Outcome.{Outcome, answer, refusal}
use Rattle.name_bytes.specs.Trim.{trimmed}
use Rattle.name_bytes.specs.Search.{is, contains}
use Rattle.name_bytes.specs.Ascii.{upper_byte, first_over}
use Rattle.thin_film.specs.declared.SurfaceCoating.{SurfaceCoating}
use Rattle.thin_film.specs.declared.SurfaceCoating.TheVariants as S
use Rattle.thin_film.specs.Coating.{mgf2_default}

-- ---- the fixed byte strings
abbrev pub NONE : List ℕ
NONE = 78 ∷ 79 ∷ 78 ∷ 69 ∷ []

abbrev pub UNCOATED : List ℕ
UNCOATED = 85 ∷ 78 ∷ 67 ∷ 79 ∷ 65 ∷ 84 ∷ 69 ∷ 68 ∷ []

abbrev pub MGF2 : List ℕ
MGF2 = 77 ∷ 71 ∷ 70 ∷ 50 ∷ []

abbrev pub BBAR : List ℕ
BBAR = 66 ∷ 66 ∷ 65 ∷ 82 ∷ []

abbrev pub HE_NE : List ℕ
HE_NE = 72 ∷ 69 ∷ 45 ∷ 78 ∷ 69 ∷ []

abbrev pub MIRROR : List ℕ
MIRROR = 77 ∷ 73 ∷ 82 ∷ 82 ∷ 79 ∷ 82 ∷ []

abbrev pub REFL : List ℕ
REFL = 82 ∷ 69 ∷ 70 ∷ 76 ∷ []

abbrev pub HR : List ℕ
HR = 72 ∷ 82 ∷ []

abbrev pub AR : List ℕ
AR = 65 ∷ 82 ∷ []

abbrev pub AR_UNDERSCORE : List ℕ
AR_UNDERSCORE = 65 ∷ 82 ∷ 95 ∷ []

abbrev pub CUSTOM : List ℕ
CUSTOM = 67 ∷ 85 ∷ 83 ∷ 84 ∷ 79 ∷ 77 ∷ []

-- ---- from_format_name
-- to_uppercase of an ASCII name
unfoldable pub upper : List ℕ → List ℕ
upper s = map upper_byte s

-- clean.is_empty() || clean == "NONE" || clean == "UNCOATED"
unfoldable pub names_none : List ℕ → Bool
names_none clean = is clean [] || is clean NONE || is clean UNCOATED

-- clean == "MGF2" || clean.contains("MGF2")
unfoldable pub names_mgf2 : List ℕ → Bool
names_mgf2 clean = is clean MGF2 || contains clean MGF2

-- clean == "BBAR" || clean == "HE-NE" || clean.contains("BBAR")
unfoldable pub names_bbar : List ℕ → Bool
names_bbar clean = is clean BBAR || is clean HE_NE || contains clean BBAR

-- clean == "MIRROR" || clean.contains("REFL") || clean == "HR"
unfoldable pub names_mirror : List ℕ → Bool
names_mirror clean = is clean MIRROR || contains clean REFL || is clean HR

-- clean == "AR" || clean.contains("AR_") || clean.contains("AR")
unfoldable pub names_ar : List ℕ → Bool
names_ar clean = is clean AR || contains clean AR_UNDERSCORE || contains clean AR

-- the coating of a trimmed upper-case name; an unknown one is the ideal AR coating
unfoldable pub coating_of : List ℕ → Option SurfaceCoating
coating_of clean =
    cond (names_none clean) None
    (cond (names_mgf2 clean) (Some mgf2_default)
    (cond (names_bbar clean) (Some S.BroadbandAr)
    (cond (names_mirror clean) (Some S.HighReflectanceMirror)
    (cond (names_ar clean) (Some S.IdealAr)
    (Some S.IdealAr)))))

-- refusal 2: over 32 bytes with place 32, else the first byte over 127
unfoldable pub from_format_name : List ℕ → Outcome (Option SurfaceCoating)
from_format_name name =
    cond (ltb 32 (length name)) (refusal 2 32)
    (cond (ltb (first_over name) (length name)) (refusal 2 (first_over name))
    (answer (coating_of (upper (trimmed name)))))

-- ---- to_format_name
abbrev pub format_name : SurfaceCoating → List ℕ
format_name S.IdealAr = AR
format_name (S.MgF2 design) = MGF2
format_name S.BroadbandAr = BBAR
format_name S.HighReflectanceMirror = MIRROR
format_name (S.Custom c) = CUSTOM
