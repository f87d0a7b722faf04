-- 02 slips 5 and 12: what a wavelength is tested on, whether the BEAM, a kind 7, a retune or a state gives it. Definitions only.
use Rattle.std.specs.Prelude.{Bool, true, ◌&&◌, ◌||◌, List, [], ◌∷◌, Float}
use Rattle.gate_limits.specs.Limits.{wavelength_passes}
use Rattle.sheet.specs.Sheet.{SheetLayer, Tuning, keeps, tunes, SheetSurface}
use Rattle.gate.specs.Gate.{layer_admitted, metal_admitted, snell_of}

unfoldable pub layers_admitted : Float → Float → List SheetLayer → Bool
layers_admitted wavelength b [] = true
layers_admitted wavelength b (l ∷ ls) = layer_admitted wavelength b l && layers_admitted wavelength b ls

-- 'A surface passes under the old limits or under these': its layers at a wavelength
abbrev pub surface_admitted : Float → SheetSurface → Bool
surface_admitted wavelength y = layers_admitted wavelength (snell_of y) y.layers || metal_admitted wavelength y

-- 'tested on the layers up to the next kind 7'
abbrev pub unless_tuned : Tuning → Bool → Bool
unless_tuned keeps t = t
unless_tuned (tunes wavelength) t = true

unfoldable pub layers_hold : Float → List SheetSurface → Bool
layers_hold wavelength [] = true
layers_hold wavelength (y ∷ ys) =
    unless_tuned y.tuning (surface_admitted wavelength y && layers_hold wavelength ys)

-- of the SURFACEs still to come; 11 'if the wavelength is NaN or outside 100 to 10,000, or some layer so tested and still to come fails the
-- gate at it'; 'passing neither set then counts as a layer that fails'
unfoldable pub holds : Float → List SheetSurface → Bool
holds wavelength ys = wavelength_passes wavelength && layers_hold wavelength ys
