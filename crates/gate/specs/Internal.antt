-- Scaffolding, not to be believed: what the limits say of the block at a place of some bytes, and of a wavelength from there on.
use Rattle.std.specs.Prelude.{Bool, true, false, ◌&&◌, cond, List, [], ◌∷◌, ℕ, zero, suc, ◌+◌, ◌-◌, eqb, Float}
use Rattle.std.specs.Float.Ieee.{le}
use Rattle.std.specs.Float.Ieee.Scale.{finite}
use Rattle.ieee.specs.Operators.{◌⊕◌}
use Rattle.gate.specs.declared.Fit.{Fit}
use Rattle.gate.specs.declared.Passage.{Passage}
use Rattle.gate_limits.specs.Limits.{sixteen, wavelength_passes, layer_within, surface_passes, metal_within, absorption}
use Rattle.sheet.specs.Words.{word, kind}
use Rattle.sheet.specs.Sheet.{SheetLayer, Tuning, keeps, tunes, SheetSurface}
use Rattle.sheet.specs.Internal.{next_place, place_on, layer_run, tuning_at, surface_at, layers_at, onto, begin}
use Rattle.sheet_values.specs.Values.{value, cauchy_film, film, surface_value, met_with}
use Rattle.sheet_values.specs.declared.Cauchy.{Cauchy}
use Rattle.gate.specs.Gate.{coefficients_finite, layer_admitted, metal_admitted, snell_of}
use Rattle.gate.specs.Wavelength.{surface_admitted}

-- the angle of the SURFACE at a place
abbrev pub angle_at : List ℕ → ℕ → Float
angle_at src at = (surface_value (surface_at src at [])).angle_rad

-- a kind 6 by its values: its coefficients are finite; and it passes under section 3's limits
abbrev pub glass_finite : Cauchy → Bool
glass_finite g = finite g.a && (finite g.b && finite g.c)

abbrev pub cauchy_admitted : Float → Float → Cauchy → Bool
cauchy_admitted wavelength b g = glass_finite g && layer_within b (cauchy_film wavelength g)

-- whether some layers, the first of which stands at a place, pass under section 3's limits; and the place of the first that does not, or else
-- the one after them
unfoldable pub fits : Float → Float → List ℕ → ℕ → List SheetLayer → Fit
fits wavelength b src at [] = record { all = true; place = at }
fits wavelength b src at (l ∷ ls) =
    cond (layer_admitted wavelength b l) (fits wavelength b src (next_place src at) ls) (record { all = false; place = at })

-- the SURFACE at a place, with n layers
abbrev pub whole_at : List ℕ → ℕ → ℕ → SheetSurface
whole_at src at n = surface_at src at (layers_at src (next_place src at) n)

-- whether it is within slip 12's limits at a wavelength
unfoldable pub metal_at : List ℕ → ℕ → ℕ → Float → Bool
metal_at src at n wavelength = metal_admitted wavelength (whole_at src at n)

-- a layer of it, and layers one after the other, with the sum so far
abbrev pub metal_layer : Float → SheetLayer → Bool
metal_layer wavelength l = coefficients_finite l && metal_within (film wavelength l)

unfoldable pub metal_layers : Float → Float → List SheetLayer → Bool
metal_layers wavelength sum [] = le sum sixteen
metal_layers wavelength sum (l ∷ ls) =
    metal_layer wavelength l && metal_layers wavelength (sum ⊕ absorption wavelength (film wavelength l)) ls

-- a kind 7, if there is one
abbrev pub tuning_passes : Tuning → Bool
tuning_passes keeps = true
tuning_passes (tunes wavelength) = wavelength_passes (value wavelength)

-- whether the SURFACE that begins at a place is within the limits, with its kind 7 and n layers, after a wavelength; the wavelength that it is
-- met with; and the place of the first block outside
unfoldable pub passage_at : List ℕ → ℕ → ℕ → Float → Passage
passage_at src begin n wavelength =
    let t = tuning_at src begin in
    let v = met_with wavelength t in
    let at = onto src begin in
    let y = whole_at src at n in
    cond (tuning_passes t)
    (cond (surface_passes (surface_value y))
    (cond (surface_admitted v y)
    (record { passes = true; wavelength_nm = v; place = begin })
    (record { passes = false; wavelength_nm = v; place = (fits v (snell_of y) src (next_place src at) y.layers).place }))
    (record { passes = false; wavelength_nm = v; place = at }))
    (record { passes = false; wavelength_nm = v; place = begin })

-- the layers of the SURFACE at a place
unfoldable pub surface_holds_at : List ℕ → ℕ → Float → Bool
surface_holds_at src at wavelength = surface_admitted wavelength (whole_at src at (layer_run 16 src at))

-- the layers of n SURFACEs, the first of which begins at a place, up to the next kind 7
unfoldable pub layers_hold_at : ℕ → List ℕ → ℕ → Float → Bool
layers_hold_at zero src at wavelength = true
layers_hold_at (suc n) src at wavelength =
    cond (eqb (kind (word src at)) 7) true
    (surface_holds_at src at wavelength && layers_hold_at n src (place_on src at (suc (layer_run 16 src at))) wavelength)

-- a wavelength, for n SURFACEs, the first of which begins at a place; with `done` of `count` SURFACEs behind it
unfoldable pub holds_from : List ℕ → ℕ → ℕ → Float → Bool
holds_from src at n wavelength = wavelength_passes wavelength && layers_hold_at n src at wavelength

unfoldable pub holds_at : List ℕ → ℕ → ℕ → Float → Bool
holds_at src done count wavelength = wavelength_passes wavelength && layers_hold_at (count - done) src (begin src done) wavelength
