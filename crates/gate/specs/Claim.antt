-- The gate's claim over all bytes: it admits exactly the sheets of either edition that meet grammar and limits, and each refusal is the one
-- that the table 'Turned back' gives.
-- Types only; `proofs/Claim.antt` inhabits `GateClaim`.
use Rattle.std.specs.Prelude.{◌≡◌, ◌⊎◌, true, false, List, [], ◌∷◌, ℕ, ◌<◌, T, length, get_or}
use Rattle.refusal.specs.Outcome.{answer, refusal}
use Rattle.gate_limits.specs.Limits.{beam_passes, surface_passes}
use Rattle.sheet.specs.Blocks.{All}
use Rattle.sheet.specs.Sheet.{Tuning, keeps, tunes, SheetSurface, Sheet, WellFormed, blocks, encode, places}
use Rattle.sheet.specs.Claim.{◌⇔◌, Bytes, length_fits, Fault}
use Rattle.sheet_values.specs.Values.{value, surface_value}
use Rattle.gate.specs.Gate.{old, spared, verdicts_by, verdicts, gated}
use Rattle.gate.specs.Wavelength.{holds}

-- ---- section 3
-- each kind 7's wavelength, from its own SURFACE on
abbrev pub untuned : SheetSurface → SheetSurface
untuned y = record {
  tuning = keeps;
  payload = y.payload;
  n_incident = y.n_incident;
  n_substrate = y.n_substrate;
  angle = y.angle;
  layers = y.layers;
}

abbrev pub HoldsFrom : Tuning → List SheetSurface → Type 0
HoldsFrom keeps ys = Unit
HoldsFrom (tunes wavelength) ys = T (holds (value wavelength) ys)

abbrev pub AllHold : List SheetSurface → Type 0
AllHold [] = Unit
AllHold (y ∷ ys) = HoldsFrom y.tuning (untuned y ∷ ys) × AllHold ys

-- the BEAM, each SURFACE, and the layers: 'tested at the wavelength that its surface is met with', the BEAM's or a kind 7's
pub record WithinLimits (x : Sheet) : Type 0 where
  pub beam : T (beam_passes (value x.wavelength) (value x.s) (value x.p))
  pub surfaces : All (λ (y : SheetSurface). T (surface_passes (surface_value y))) x.surfaces
  pub holds : T (holds (value x.wavelength) x.surfaces)
  pub tuned : AllHold x.surfaces

-- the first BEAM, kind 7, SURFACE or layer outside is some block of the sheet, and stands at its kind word's place
pub record FirstOutside (x : Sheet) (place : ℕ) : Type 0 where
  pub block : ℕ
  pub inside : block < length (blocks x)
  pub outside : get_or (verdicts x) block true ≡ false
  pub first : (i : ℕ) → i < block → get_or (verdicts x) i true ≡ true
  pub stands : place ≡ get_or (places x) block 0

-- slip 12: it is outside the old limits and no layer of a SURFACE that passes under the others, and each block before it is within the old
-- limits or is such a layer
pub record AsBefore (x : Sheet) (place : ℕ) : Type 0 where
  pub block : ℕ
  pub stands : place ≡ get_or (places x) block 0
  pub outside : get_or (verdicts_by old x) block true ≡ false
  pub unspared : get_or (verdicts_by spared x) block false ≡ false
  pub first : (i : ℕ) → i < block → (get_or (verdicts_by spared x) i false ≡ true) ⊎ (get_or (verdicts_by old x) i true ≡ true)

pub record GateClaim : Type 0 where
  -- admitted exactly when the bytes are those of a well-formed sheet within the limits; that sheet is then the answer, so it is the only
  -- one
  pub admits : (src : List ℕ) → Bytes src → (x : Sheet) → (gated src ≡ answer x) ⇔ ((WellFormed x × WithinLimits x) × (encode x ≡ src))
  -- 4 exactly when the length is no multiple of 4, under 36 or over the longest; its place is 0
  pub four : (src : List ℕ) → Bytes src → (place : ℕ) → (gated src ≡ refusal 4 place) ⇔ ((length_fits src ≡ false) × (place ≡ 0))
  -- 5 exactly when the length fits and no well-formed sheet encodes to the bytes
  pub five : (src : List ℕ) → Bytes src → (place : ℕ) →
      (gated src ≡ refusal 5 place) ⇔ (T (length_fits src) × (((x : Sheet) → WellFormed x → encode x ≡ src → ⊥) × Fault src place))
  -- 6 exactly when a well-formed sheet does and is outside the limits
  pub six : (src : List ℕ) → Bytes src → (place : ℕ) →
      (gated src ≡ refusal 6 place) ⇔ ((x : Sheet) × ((WellFormed x × (encode x ≡ src)) × FirstOutside x place))
  -- 'If neither set holds, 6 gives the word it gave before.'
  pub word : (x : Sheet) (place : ℕ) → FirstOutside x place → AsBefore x place
  -- a verdict for each block, and where a sheet's places are is `GrammarClaim`'s `placed`
  pub each : (x : Sheet) → length (verdicts x) ≡ length (blocks x)
  -- and there is no other refusal
  pub no_other : (src : List ℕ) → (number place : ℕ) → gated src ≡ refusal number place → (number ≡ 4) ⊎ ((number ≡ 5) ⊎ (number ≡ 6))
