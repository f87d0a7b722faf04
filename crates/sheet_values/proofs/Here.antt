-- The values of the BEAM and of a SURFACE with its layers, where they stand in some bytes. Assumes nothing.
use mathlib.Core.Path.{◌≡◌, refl, ap, ◌∙◌}
use mathlib.Core.List.{List, [], ◌∷◌}
use Prim.Native.Nat.{ℕ, zero, suc, ◌+◌, ◌*◌, ◌<◌}
use native.Mathlib.Omega.{arith}
use lib.ListN.{length, get_or}
use lib.Ieee.{Float}
use Rattle.sheet.specs.Words.{float}
use Rattle.sheet.specs.Blocks.{Block}
use Rattle.sheet.specs.Sheet.{SheetSurface, nth, Sheet}
use Rattle.sheet.specs.Internal.{next_place, tuning_at, surface_at, layers_at, layer_run, begin}
use Rattle.sheet.proofs.Stands.{Standing, SurfaceHere, beam_stands, made_float, tuning_i, begin_stands}
use Rattle.sheet_values.specs.Values.{value, beam_value, films, surface_value, met_with, met_at}
use Rattle.sheet_values.specs.Internal.{beam_at, wavelength_at}

pub beam_here : (src : List ℕ) (x : Sheet) → Standing src x → beam_at src (next_place src 0) ≡ beam_value x
beam_here src x h =
    let f : (i j : ℕ) → j ≡ suc (2 * i) → i < 3 → float src (next_place src 0 + j) ≡ get_or (x.wavelength ∷ x.s ∷ x.p ∷ []) i 0 = made_float src (next_place src 0) 2 0 (x.wavelength ∷ x.s ∷ x.p ∷ []) _ (beam_stands src x h) in
    λ i. record { wavelength_nm = value (f 0 1 refl (omega arith) i); s = value (f 1 3 refl (omega arith) i); p = value (f 2 5 refl (omega arith) i) }

module _ (src : List ℕ) (at : ℕ) (y : SheetSurface) (more : List Block) (h : SurfaceHere src at y more) where
  pub value_here : surface_value (surface_at src at []) ≡ surface_value y
  value_here = ap surface_value (h.value [])

  pub films_here : (wavelength : Float) (n : ℕ) → n ≡ layer_run 16 src at → films wavelength (layers_at src (next_place src at) n) ≡ films wavelength y.layers
  films_here wavelength n e = ap (λ (m : ℕ). films wavelength (layers_at src (next_place src at) m)) (e ∙ h.run) ∙ ap (films wavelength) h.layers

-- the wavelength that the i-th SURFACE is met with
pub tuning_here : (src : List ℕ) (x : Sheet) → Standing src x → (i : ℕ) → i < length x.surfaces → tuning_at src (begin src i) ≡ (nth x.surfaces i).tuning
tuning_here src x h i lt = tuning_i src x h (begin src i) i lt (begin_stands src x h i (omega arith))

pub wavelength_here : (src : List ℕ) (x : Sheet) → Standing src x → (i : ℕ) → i < length x.surfaces → wavelength_at src i ≡ met_at (value x.wavelength) x.surfaces i
unfolding wavelength_at met_at
wavelength_here src x h zero lt = λ k. met_with (beam_here src x h k).wavelength_nm (tuning_here src x h zero lt k)
wavelength_here src x h (suc i) lt = λ k. met_with (wavelength_here src x h i (omega arith) k) (tuning_here src x h (suc i) lt k)
