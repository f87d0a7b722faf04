-- 01 section 3 and 02 slip 12, the gate's limits: all ends included, every product rounded once. Definitions only.
-- A NaN is within no limit; a zero of either sign is equal to zero.
use Rattle.std.specs.Prelude.{ℕ, Bool, true, ◌&&◌, ◌||◌, List, [], ◌∷◌, eqb, leb, length, Float}
use Rattle.std.specs.Float.{binary64}
use Rattle.std.specs.Float.Ieee.{le, eq, of_bits}
use Rattle.std.specs.Float.Ieee.Scale.{finite}
use Rattle.ieee.specs.Operators.{◌⊕◌, ◌⊗◌, ◌⊘◌}
use Rattle.ieee.specs.Functions.{zero_f, one, two, seven_eighths, abs, four, quarter}
use Rattle.math_trig.specs.Angles.{pi}
use Rattle.math_trig.specs.Trig.{sin, cos}
use Rattle.thin_film_solver.specs.declared.ThinFilmLayer.{ThinFilmLayer}
use Rattle.gate_limits.specs.declared.Surface.{Surface}
use Rattle.gate_limits.specs.declared.Judgement.{Judgement}
use Rattle.gate_limits.specs.Coating.{interface, preset_layers}

-- 100
abbrev pub hundred : Float
hundred = of_bits binary64 0x4059_0000_0000_0000

-- 10,000
abbrev pub ten_thousand : Float
ten_thousand = of_bits binary64 0x40C3_8800_0000_0000

-- 100,000
abbrev pub hundred_thousand : Float
hundred_thousand = of_bits binary64 0x40F8_6A00_0000_0000

-- 0.0625
abbrev pub sixteenth : Float
sixteenth = of_bits binary64 0x3FB0_0000_0000_0000

-- 8
abbrev pub eight : Float
eight = of_bits binary64 0x4020_0000_0000_0000

-- 16
abbrev pub sixteen : Float
sixteen = of_bits binary64 0x4030_0000_0000_0000

unfoldable pub within : Float → Float → Float → Bool
within lo hi x = le lo x && le x hi

-- ---- the BEAM: wavelength 100 to 10,000; s and p power 0 to 1
abbrev pub wavelength_passes : Float → Bool
wavelength_passes wavelength = within hundred ten_thousand wavelength

abbrev pub power_passes : Float → Bool
power_passes power = within zero_f one power

unfoldable pub beam_passes : Float → Float → Float → Bool
beam_passes wavelength s p = wavelength_passes wavelength && (power_passes s && power_passes p)

-- ---- n_incident·abs(sin), and that it is at most 0.875·n
abbrev pub snell_size : Float → Float → Float
snell_size n_incident angle = n_incident ⊗ abs (sin angle)

abbrev pub refracts : Float → Float → Bool
refracts b n = le b (seven_eighths ⊗ n)

-- ---- a layer, for an n_incident·abs(sin) of b: n 1 to 4, k equal to zero, thickness 0 to 100,000, b at most 0.875·n
unfoldable pub layer_within : Float → ThinFilmLayer → Bool
layer_within b layer =
    within one four layer.n
    && (eq layer.k zero_f && (within zero_f hundred_thousand layer.thickness_nm && refracts b layer.n))

unfoldable pub layers_within : Float → List ThinFilmLayer → Bool
layers_within b [] = true
layers_within b (layer ∷ layers) = layer_within b layer && layers_within b layers

abbrev pub layer_passes : Float → Float → ThinFilmLayer → Bool
layer_passes n_incident angle layer = layer_within (snell_size n_incident angle) layer

abbrev pub layers_pass : Float → Float → List ThinFilmLayer → Bool
layers_pass n_incident angle layers = layers_within (snell_size n_incident angle) layers

-- ---- a SURFACE without its LAYERs, from b = n_incident·abs(sin) and c = cos: both indices 1 to 4; angle finite with cos at least 0.25;
-- n_incident·abs(sin) at most 0.875·n_substrate; preset layers too
abbrev pub angle_within : Float → Float → Surface → Bool
angle_within b c s = le quarter c && (refracts b s.n_substrate && layers_within b (preset_layers (interface s.coating)))

abbrev pub surface_within : Float → Float → Surface → Bool
surface_within b c s =
    within one four s.n_incident && (within one four s.n_substrate && (finite s.angle_rad && angle_within b c s))

unfoldable pub angle_passes : Surface → Bool
angle_passes s = angle_within (snell_size s.n_incident s.angle_rad) (cos s.angle_rad) s

unfoldable pub surface_passes : Surface → Bool
surface_passes s = within one four s.n_incident && (within one four s.n_substrate && (finite s.angle_rad && angle_passes s))

-- both that a surface passes and its n_incident·abs(sin), for its LAYERs
abbrev pub judgement : Surface → Judgement
judgement s = record { passes = surface_passes s; snell = snell_size s.n_incident s.angle_rad }

-- ---- metal films, 02 slip 12: 'n 0.0625 to 4, k 0 to 8', and 'The other gate limits remain': n_incident·abs(sin) is zero here
unfoldable pub metal_within : ThinFilmLayer → Bool
metal_within layer =
    within sixteenth four layer.n && (within zero_f eight layer.k && within zero_f hundred_thousand layer.thickness_nm)

unfoldable pub metals_within : List ThinFilmLayer → Bool
metals_within [] = true
metals_within (layer ∷ layers) = metal_within layer && metals_within layers

-- '((2·π·thickness)/wavelength)·k'
unfoldable pub absorption : Float → ThinFilmLayer → Float
absorption wavelength layer = two ⊗ pi ⊗ layer.thickness_nm ⊘ wavelength ⊗ layer.k

-- 'the sum over its layers .. rounded at each step in the order of the list', onto a sum so far
unfoldable pub absorptions : Float → Float → List ThinFilmLayer → Float
absorptions wavelength sum [] = sum
absorptions wavelength sum (layer ∷ layers) = absorptions wavelength (sum ⊕ absorption wavelength layer) layers

-- 'A custom surface at angle zero, of either sign, may now have 1 to 4 layers under other limits'
unfoldable pub may_be_metal : Surface → ℕ → Bool
may_be_metal s count = eqb s.coating 5 && (eq s.angle_rad zero_f && (leb 1 count && leb count 4))

-- 'and the sum over its layers .. at most 16'
unfoldable pub metal_passes : Float → Surface → List ThinFilmLayer → Bool
metal_passes wavelength s layers =
    may_be_metal s (length layers) && (metals_within layers && le (absorptions wavelength zero_f layers) sixteen)

-- ---- a SURFACE with its LAYERs at the wavelength that it is met with: 'A surface passes under the old limits or under these.'
unfoldable pub passes : Float → Surface → List ThinFilmLayer → Bool
passes wavelength s layers =
    surface_passes s && (layers_pass s.n_incident s.angle_rad layers || metal_passes wavelength s layers)
