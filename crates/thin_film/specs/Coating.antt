-- `SurfaceCoating` of thin_film.rs, beside a list of layers. Definitions only.
use Rattle.std.specs.Prelude.{◌≡◌, ℕ, ◌-◌, false, cond, List, [], ◌∷◌, ◌++◌, leb, length, replicate, Float}
use Rattle.std.specs.Float.{binary64}
use Rattle.std.specs.Float.Ieee.{of_bits, round}
use Rattle.thin_film_solver.specs.declared.ThinFilmLayer.{ThinFilmLayer}
use Rattle.thin_film_solver.specs.Solve.{dielectric}
use Rattle.thin_film_presets.specs.Layers.{n_sio2, n_tio2, quarter_wave, bragg_layers, broadband_layers}
use Rattle.thin_film_coating.specs.declared.Coating.{Coating}
use Rattle.thin_film_coating.specs.declared.Coating.TheVariants as C
use Rattle.thin_film_coating.specs.declared.Layers.{Layers}
use Rattle.thin_film_coating.specs.declared.Built.{Built}
use Rattle.thin_film_coating.specs.Coating.{built, too_many}
use Rattle.thin_film.specs.declared.SurfaceCoating.{SurfaceCoating}
use Rattle.thin_film.specs.declared.SurfaceCoating.TheVariants as S
use Rattle.thin_film.specs.declared.Text.{Text}

-- 550
abbrev pub standard_wavelength : Float
standard_wavelength = of_bits binary64 0x4081_3000_0000_0000

-- 1.38
abbrev pub n_mgf2 : Float
n_mgf2 = of_bits binary64 0x3FF6_147A_E147_AE14

-- each is the double nearest to its decimal; proofs/Decimals.antt has the proof
pub record Decimals : Type 0 where
  pub design : standard_wavelength ≡ round binary64 false 550 1
  pub mgf2 : n_mgf2 ≡ round binary64 false 138 100

-- ---- layers
-- to_coating, MgF2
unfoldable pub mgf2_layers : Float → List ThinFilmLayer
mgf2_layers design = dielectric n_mgf2 (quarter_wave design n_mgf2) ∷ []

-- to_coating, HighReflectanceMirror
unfoldable pub mirror_layers : List ThinFilmLayer
mirror_layers = bragg_layers n_tio2 n_sio2 7 standard_wavelength

-- ---- to_coating: the enum, and the list beside it, `custom` being the caller's
abbrev pub coating_of : SurfaceCoating → Coating
coating_of S.IdealAr = C.IdealAr
coating_of (S.MgF2 design) = C.Multilayer
coating_of S.BroadbandAr = C.Multilayer
coating_of S.HighReflectanceMirror = C.Multilayer
coating_of (S.Custom c) = c

unfoldable pub layers_of : SurfaceCoating → List ThinFilmLayer → List ThinFilmLayer
layers_of S.IdealAr custom = []
layers_of (S.MgF2 design) custom = mgf2_layers design
layers_of S.BroadbandAr custom = broadband_layers
layers_of S.HighReflectanceMirror custom = mirror_layers
layers_of (S.Custom C.Multilayer) custom = custom
layers_of (S.Custom C.IdealAr) custom = []
layers_of (S.Custom C.IdealMirror) custom = []
layers_of (S.Custom C.IdealBeamsplitter) custom = []

-- mgf2_default
abbrev pub mgf2_default : SurfaceCoating
mgf2_default = S.MgF2 standard_wavelength

-- to_coating, of a coating beside its explicit layers; 3 for more than 64 of them
abbrev pub to_coating : SurfaceCoating → Layers → Built
to_coating (S.Custom C.Multilayer) custom =
    cond (leb custom.count 64) (record { refusal = 0; coating = C.Multilayer; layers = custom }) too_many
to_coating (S.Custom C.IdealAr) custom = built C.IdealAr []
to_coating (S.Custom C.IdealMirror) custom = built C.IdealMirror []
to_coating (S.Custom C.IdealBeamsplitter) custom = built C.IdealBeamsplitter []
to_coating S.IdealAr custom = built C.IdealAr []
to_coating (S.MgF2 design) custom = built C.Multilayer (mgf2_layers design)
to_coating S.BroadbandAr custom = built C.Multilayer broadband_layers
to_coating S.HighReflectanceMirror custom = built C.Multilayer mirror_layers

-- label, as UTF-8 bytes
abbrev pub label : SurfaceCoating → List ℕ
label S.IdealAr = 73 ∷ 100 ∷ 101 ∷ 97 ∷ 108 ∷ 32 ∷ 65 ∷ 82 ∷ []
label (S.MgF2 design) = 77 ∷ 103 ∷ 70 ∷ 50 ∷ 32 ∷ 40 ∷ 0xCE ∷ 0xBB ∷ 47 ∷ 52 ∷ 41 ∷ []
label S.BroadbandAr = 66 ∷ 66 ∷ 65 ∷ 82 ∷ 32 ∷ 40 ∷ 77 ∷ 117 ∷ 108 ∷ 116 ∷ 105 ∷ 41 ∷ []
label S.HighReflectanceMirror = 77 ∷ 105 ∷ 114 ∷ 114 ∷ 111 ∷ 114 ∷ 32 ∷ 40 ∷ 57 ∷ 57 ∷ 46 ∷ 57 ∷ 37 ∷ 41 ∷ []
label (S.Custom c) = 67 ∷ 117 ∷ 115 ∷ 116 ∷ 111 ∷ 109 ∷ 32 ∷ 83 ∷ 116 ∷ 97 ∷ 99 ∷ 107 ∷ []

-- bytes in the first of 16 places
abbrev pub text : List ℕ → Text
text bytes = record { bytes = bytes ++ replicate (16 - length bytes) 0; len = length bytes }
