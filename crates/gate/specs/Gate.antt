-- 01 section 3, 02 slips 3, 5 and 12 and the table 'Turned back': the gate over a whole sheet. Definitions only.
-- `Claim` says what it has to do with `encode`, `WellFormed` and `WithinLimits`.
use Rattle.std.specs.Prelude.{Bool, true, ◌&&◌, ◌||◌, cond, List, [], ◌∷◌, ℕ, zero, suc, eqb, Float}
use Rattle.std.specs.Float.Ieee.Scale.{finite}
use Rattle.refusal.specs.Outcome.{Outcome, answer, refusal, map}
use Rattle.gate_limits.specs.Limits.{wavelength_passes, beam_passes, snell_size, layer_within, surface_passes, metal_passes}
use Rattle.sheet.specs.Words.{kind}
use Rattle.sheet.specs.Blocks.{Block}
use Rattle.sheet.specs.Sheet.{SheetLayer, layer, cauchy, SheetSurface, no_surface, Sheet, blocks, places}
use Rattle.sheet.specs.Read.{layer_kind, number, layer_of, surface_of, decode, graded, surfaces_of}
use Rattle.sheet.specs.Claim.{length_fits}
use Rattle.sheet_values.specs.Values.{value, film, films, surface_value}

-- ---- a layer of either kind at a wavelength, under section 3's limits, for an n_incident·abs(sin) of b
-- 'A, B and C must be finite'
abbrev pub coefficients_finite : SheetLayer → Bool
coefficients_finite (layer n k thickness) = true
coefficients_finite (cauchy a b c thickness) = finite (value a) && (finite (value b) && finite (value c))

-- 'The gate tests that index as a layer's n'
abbrev pub layer_admitted : Float → Float → SheetLayer → Bool
layer_admitted wavelength b l = coefficients_finite l && layer_within b (film wavelength l)

unfoldable pub all_finite : List SheetLayer → Bool
all_finite [] = true
all_finite (l ∷ ls) = coefficients_finite l && all_finite ls

-- ---- slip 12: a SURFACE with its layers at a wavelength, under the limits of metal films
abbrev pub metal_admitted : Float → SheetSurface → Bool
metal_admitted wavelength y = all_finite y.layers && metal_passes wavelength (surface_value y) (films wavelength y.layers)

-- ---- the limits, block by block
-- n_incident·abs(sin) of a SURFACE
abbrev pub snell_of : SheetSurface → Float
snell_of y = snell_size (value y.n_incident) (value y.angle)

-- what section 3's say of a block by its own words, at the wavelength there and for an n_incident·abs(sin) of b of the SURFACE before it; a
-- preset's layers count as the SURFACE
unfoldable pub verdict : Float → Float → Block → Bool
verdict wavelength b k =
    cond (eqb (kind k.word) 2) (beam_passes (value (number k 0)) (value (number k 1)) (value (number k 2)))
    (cond (eqb (kind k.word) 3) (surface_passes (surface_value (surface_of k [])))
    (cond (layer_kind 2 (kind k.word)) (layer_admitted wavelength b (layer_of k))
    (cond (eqb (kind k.word) 7) (wavelength_passes wavelength) true)))

-- of a block after the SURFACE y: section 3's limits alone
abbrev pub old : Float → SheetSurface → Block → Bool
old wavelength y k = verdict wavelength (snell_of y) k

-- a layer of a SURFACE that passes under slip 12's limits
abbrev pub spared : Float → SheetSurface → Block → Bool
spared wavelength y k = layer_kind 2 (kind k.word) && metal_admitted wavelength y

-- 'A surface passes under the old limits or under these.'
abbrev pub either : Float → SheetSurface → Block → Bool
either wavelength y k = spared wavelength y k || old wavelength y k

-- the wavelength from a block on: a kind 7's own, else the one before it
unfoldable pub tuned : Float → Block → Float
tuned wavelength k = cond (eqb (kind k.word) 7) (value (number k 0)) wavelength

-- the layers that stand first among some blocks, so many at the most
unfoldable pub leading : ℕ → List Block → List SheetLayer
leading zero ks = []
leading (suc n) [] = []
leading (suc n) (k ∷ ks) = cond (layer_kind 2 (kind k.word)) (layer_of k ∷ leading n ks) []

-- the SURFACE before the blocks ks, with its layers
unfoldable pub carried : SheetSurface → Block → List Block → SheetSurface
carried y k ks = cond (eqb (kind k.word) 3) (surface_of k (leading 16 ks)) y

unfoldable pub walked : (Float → SheetSurface → Block → Bool) → Float → SheetSurface → List Block → List Bool
walked says wavelength y [] = []
walked says wavelength y (k ∷ ks) = let w = tuned wavelength k in says w y k ∷ walked says w (carried y k ks) ks

-- one for each block, in their order, at the BEAM's wavelength first
abbrev pub verdicts_by : (Float → SheetSurface → Block → Bool) → Sheet → List Bool
verdicts_by says x = walked says (value x.wavelength) no_surface (blocks x)

abbrev pub verdicts : Sheet → List Bool
verdicts x = verdicts_by either x

-- 6: the first block outside, at its place
unfoldable pub judged : {A : Type 0} → A → List ℕ → List Bool → Outcome A
judged a places [] = answer a
judged a [] (t ∷ ts) = answer a
judged a (place ∷ places) (t ∷ ts) = cond t (judged a places ts) (refusal 6 place)

-- ---- the gate: 4, then 5, then 6
abbrev pub within_limits : Outcome Sheet → Outcome Sheet
within_limits (answer x) = judged x (places x) (verdicts x)
within_limits (refusal number place) = refusal number place

-- 01's gate: the sheet that some bytes hold, if it is admitted; 4, then 5, then 6 over the whole sheet
unfoldable pub gated : List ℕ → Outcome Sheet
gated src = cond (length_fits src) (within_limits (graded (decode src))) (refusal 4 0)

-- its count of surfaces
unfoldable pub gate : List ℕ → Outcome ℕ
gate src = map surfaces_of (gated src)
