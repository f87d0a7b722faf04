-- 02 slip 14, whole. Types only; `proofs/Claim.antt` inhabits `BandClaim`.
use Rattle.std.specs.Prelude.{◌≡◌, ◌&&◌, List, ℕ, ◌≤◌, ◌<◌, T, length, get_or, Float}
use Rattle.std.specs.Float.{nan, binary64}
use Rattle.std.specs.Float.Ieee.{fits, le}
use Rattle.ieee.specs.Functions.{zero_f, one}
use Rattle.refusal.specs.Outcome.{Outcome, answer, refusal}
use Rattle.sheet.specs.Blocks.{All}
use Rattle.sheet.specs.Sheet.{Sheet, encode}
use Rattle.sheet.specs.Claim.{◌⇔◌, Bytes}
use Rattle.surface.specs.Finite.{Finite}
use Rattle.gate.specs.Gate.{gated}
use Rattle.gate.specs.Wavelength.{holds}
use Rattle.sheet_untuned.specs.Claim.{Untuned, FirstTuning}
use Rattle.train_steps.specs.Train.{fresh}
use Rattle.train_claim.specs.Claim.{acts, steps}
use Rattle.band.specs.declared.BandPowers.{BandPowers}
use Rattle.band.specs.Band.{at_wavelength, at_line, powers, band}

-- ---- the lines
-- '1 to 64 lines, each a wavelength and a whole weight'
pub record Lines (wavelengths : List Float) (weights : List ℕ) : Type 0 where
  pub some : 1 ≤ length wavelengths
  pub most : length wavelengths ≤ 64
  pub equal : length wavelengths ≡ length weights

-- 'weight 1 to 1,000'
abbrev pub Weight : ℕ → Type 0
Weight n = (1 ≤ n) × (n ≤ 1000)

-- a wavelength that the sheet can be run at
abbrev pub Passes : Sheet → Float → Type 0
Passes x w = T (holds w x.surfaces)

-- 'the first line whose ..', 'lines counted from 0'
pub record FirstFails {A : Type 0} (P : A → Type 0) (d : A) (lines : List A) (line : ℕ) : Type 0 where
  pub inside : line < length lines
  pub fails : P (get_or lines line d) → ⊥
  pub first : (i : ℕ) → i < line → P (get_or lines i d)

-- ---- how a band of an admitted sheet without kind 7 is answered: 15, then 16, else the powers. No two of these hold at once
pub data Told (x : Sheet) (wavelengths : List Float) (weights : List ℕ) : Outcome BandPowers → Type 0 where
  lists : (Lines wavelengths weights → ⊥) → Told x wavelengths weights (refusal 15 64)
  weight : Lines wavelengths weights → (line : ℕ) → FirstFails Weight 0 weights line → Told x wavelengths weights (refusal 15 line)
  wavelength : Lines wavelengths weights → All Weight weights → (line : ℕ) → FirstFails (Passes x) nan wavelengths line →
      Told x wavelengths weights (refusal 16 line)
  passed : Lines wavelengths weights → All Weight weights → All (Passes x) wavelengths →
      Told x wavelengths weights (answer (powers x wavelengths weights))

-- 'Each result is finite, at least 0 and at most 1'
abbrev pub FromZeroToOne : Float → Type 0
FromZeroToOne r = Finite r × T (le zero_f r && le r one)

-- ---- the slip
pub record BandClaim : Type 0 where
  -- 'whose wavelength the gate refuses, for itself or for a layer': the sheet with that wavelength in place of the BEAM's is not admitted
  pub passes : (src : List ℕ) → Bytes src → (x : Sheet) → gated src ≡ answer x → (w : Float) → T (fits binary64 w) →
      Passes x w ⇔ (gated (encode (at_wavelength x w)) ≡ answer (at_wavelength x w))
  -- 'The train is run at each line from its start': that sheet's, by steps alone
  pub line : (src : List ℕ) → Bytes src → (x : Sheet) → gated src ≡ answer x → (w : Float) → T (fits binary64 w) → Passes x w →
      acts (encode (at_wavelength x w)) (steps (length x.surfaces)) (fresh (at_wavelength x w)) ≡ at_line x w
  -- '4, 5, 6, 12, 15, 16'
  pub turned_back : (src : List ℕ) (number place : ℕ) → gated src ≡ refusal number place → (wavelengths : List Float) (weights : List ℕ) →
      band src wavelengths weights ≡ refusal number place
  pub twelve : (src : List ℕ) (x : Sheet) → gated src ≡ answer x → (place : ℕ) → FirstTuning x place →
      (wavelengths : List Float) (weights : List ℕ) → band src wavelengths weights ≡ refusal 12 place
  pub told : (src : List ℕ) → Bytes src → (x : Sheet) → gated src ≡ answer x → Untuned x →
      (wavelengths : List Float) (weights : List ℕ) → Told x wavelengths weights (band src wavelengths weights)
  pub bounded : (src : List ℕ) → Bytes src → (wavelengths : List Float) → All (λ w. T (fits binary64 w)) wavelengths → (weights : List ℕ) →
      (b : BandPowers) → band src wavelengths weights ≡ answer b → FromZeroToOne b.s × FromZeroToOne b.p
