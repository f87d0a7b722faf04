-- What dihkelu_coating_from_name returns, and what dihkelu_coating_name and dihkelu_trim return and leave. Definitions only.
use Rattle.std.specs.Prelude.{◌≡◌, ℕ, cond, List, ◌++◌, leb, length, drop, Float, Option, None, Some}
use Rattle.refusal.specs.Outcome.{Outcome, answer, refusal, map}
use Rattle.thin_film_coating.specs.declared.Coating.TheVariants as C
use Rattle.thin_film.specs.declared.SurfaceCoating.{SurfaceCoating}
use Rattle.thin_film.specs.declared.SurfaceCoating.TheVariants as S
use Rattle.thin_film.specs.Coating.{standard_wavelength}
use Rattle.name_coating.specs.Name.{from_format_name, format_name}
use Rattle.c_layers.specs.Evaluate.{call_coating}
use Rattle.name_bytes.specs.Trim.{span}
use Rattle.c_call.specs.Call.{packed}

-- those that dihkelu_evaluate takes
abbrev pub code_of : SurfaceCoating → ℕ
code_of S.IdealAr = 1
code_of (S.MgF2 design) = 2
code_of S.BroadbandAr = 3
code_of S.HighReflectanceMirror = 4
code_of (S.Custom C.Multilayer) = 5
code_of (S.Custom C.IdealBeamsplitter) = 6
code_of (S.Custom C.IdealMirror) = 7
code_of (S.Custom C.IdealAr) = 8

-- 0 for no coating
abbrev pub named_code : Option SurfaceCoating → ℕ
named_code None = 0
named_code (Some coating) = code_of coating

-- the design wavelength of a coating that has one; of a name it is 550
abbrev pub design_of : SurfaceCoating → Float
design_of (S.MgF2 design) = design
design_of S.IdealAr = standard_wavelength
design_of S.BroadbandAr = standard_wavelength
design_of S.HighReflectanceMirror = standard_wavelength
design_of (S.Custom c) = standard_wavelength

-- the claim: dihkelu_evaluate has the coating by its code; proofs/Codes.antt has the proof
abbrev pub CodesClaim : Type 0
CodesClaim = (coating : SurfaceCoating) → call_coating (code_of coating) (design_of coating) ≡ Some coating

-- ---- dihkelu_coating_name
-- to_format_name; 2 where there is no coating
abbrev pub name_of : Option SurfaceCoating → Outcome (List ℕ)
name_of (Some coating) = answer (format_name coating)
name_of None = refusal 2 0

-- of the coating that dihkelu_evaluate has by a code; no name depends on the design wavelength
abbrev pub coating_name : ℕ → Outcome (List ℕ)
coating_name code = name_of (call_coating code standard_wavelength)

-- the number that the call returns, and the bytes that it leaves
pub record Left : Type 0 where
  pub returned : ℕ
  pub output : List ℕ

abbrev pub left : ℕ → List ℕ → Left
left returned output = record { returned = returned; output = output }

-- a name at the front of the output, and its length in bytes; 8 where the output is shorter
abbrev pub laid : List ℕ → List ℕ → Left
laid name output =
    cond (leb (length name) (length output))
    (left (length name) (name ++ drop (length name) output))
    (left (packed 8 0) output)

-- no refusal changes the output
abbrev pub name_left : Outcome (List ℕ) → List ℕ → Left
name_left (answer name) output = laid name output
name_left (refusal number place) output = left (packed number place) output

-- what is said: 8 for an output that is too short, after 2
abbrev pub name_said : Outcome (List ℕ) → List ℕ → Outcome ℕ
name_said (answer name) output = cond (leb (length name) (length output)) (answer (length name)) (refusal 8 0)
name_said (refusal number place) output = refusal number place

-- the code that a coating's name is read back as: its own, but CUSTOM is no name that is known, and so IdealAr
abbrev pub code_again : SurfaceCoating → ℕ
code_again (S.Custom c) = code_of S.IdealAr
code_again S.IdealAr = code_of S.IdealAr
code_again (S.MgF2 design) = code_of (S.MgF2 design)
code_again S.BroadbandAr = code_of S.BroadbandAr
code_again S.HighReflectanceMirror = code_of S.HighReflectanceMirror

-- the claim: a coating's code has its name, and the name its code; proofs/Again.antt has the proof
pub record NamesClaim : Type 0 where
  pub named : (coating : SurfaceCoating) → coating_name (code_of coating) ≡ answer (format_name coating)
  pub again : (coating : SurfaceCoating) → map named_code (from_format_name (format_name coating)) ≡ answer (code_again coating)

-- ---- dihkelu_trim
-- the number that the call returns, and the two numbers that it leaves
pub record Cut : Type 0 where
  pub returned : ℕ
  pub place : ℕ
  pub len : ℕ

abbrev pub cut : ℕ → ℕ → ℕ → Cut
cut returned place len = record { returned = returned; place = place; len = len }

-- 'the trimmed part of the caller's name is handed back by a call of its own, which takes all bytes and refuses none': its place in the
-- name, and its length
abbrev pub trim_left : List ℕ → Cut
trim_left name = cut 0 (span name).place (span name).len
