-- 02, slip 13, of an admitted sheet: R + T of a custom surface without layers, and R of a bare one, both met head-on.
-- Types only; proofs/Claim.antt inhabits `HeadOnClaim`.
use Rattle.std.specs.Prelude.{◌≡◌, ℕ, ◌/◌, ◌<◌, List, [], T, length}
use Rattle.std.specs.Float.Ieee.{eq}
use Rattle.ieee.specs.Functions.{zero_f}
use Rattle.refusal.specs.Outcome.{answer}
use Rattle.thin_film_conserved.specs.Claim.{AddsUp, Conserves, asked, reached}
use Rattle.fresnel_near.specs.Claim.{HeadOn}
use Rattle.surface.specs.declared.Answers.{Answers}
use Rattle.sheet.specs.Sheet.{SheetSurface, nth, Sheet}
use Rattle.sheet.specs.Claim.{Bytes}
use Rattle.sheet_values.specs.Values.{value}
use Rattle.gate.specs.Gate.{gated}
use Rattle.sheet_surfaces.specs.Surfaces.{surface_answers}

-- the angle is a zero of either sign
abbrev pub Straight : SheetSurface → Type 0
Straight y = T (eq (value y.angle) zero_f)

-- coating 5 without LAYERs: R + T of its response and of its powers
pub record CustomAnswers (bound : ℕ) (src : List ℕ) (i : ℕ) : Type 0 where
  pub answers : Answers
  pub is : surface_answers src i ≡ answer answers
  pub response : Conserves bound answers.response
  pub s : AddsUp bound answers.powers.reflectance_s answers.powers.transmittance_s
  pub p : AddsUp bound answers.powers.reflectance_p answers.powers.transmittance_p

-- coating 0: R beside the exact fraction
pub record BareAnswers (src : List ℕ) (i : ℕ) (y : SheetSurface) : Type 0 where
  pub answers : Answers
  pub is : surface_answers src i ≡ answer answers
  pub s : HeadOn (value y.n_incident) (value y.n_substrate) answers.powers.reflectance_s
  pub p : HeadOn (value y.n_incident) (value y.n_substrate) answers.powers.reflectance_p

-- for every admitted sheet and each of its surfaces
pub record OfSheet (src : List ℕ) (x : Sheet) : Type 0 where
  pub custom : (i : ℕ) → i < length x.surfaces → let y = nth x.surfaces i in
      y.payload / 2 ≡ 5 → y.layers ≡ [] → Straight y → CustomAnswers asked src i
  pub closer : (i : ℕ) → i < length x.surfaces → let y = nth x.surfaces i in
      y.payload / 2 ≡ 5 → y.layers ≡ [] → Straight y → CustomAnswers reached src i
  pub bare : (i : ℕ) → i < length x.surfaces → let y = nth x.surfaces i in
      y.payload / 2 ≡ 0 → Straight y → BareAnswers src i y

abbrev pub HeadOnClaim : Type 0
HeadOnClaim = (src : List ℕ) → Bytes src → (x : Sheet) → gated src ≡ answer x → OfSheet src x
