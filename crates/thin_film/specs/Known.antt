-- The layers that `to_coating` gives a preset, and labels, worked out apart. Types only; `proofs/Coatings.antt` computes them.
use Rattle.std.specs.Prelude.{◌≡◌, [], ◌∷◌}
use Rattle.std.specs.Float.{binary64}
use Rattle.std.specs.Float.Ieee.{of_bits}
use Rattle.thin_film_solver.specs.declared.ThinFilmLayer.{ThinFilmLayer}
use Rattle.thin_film_presets.specs.Known.{film}
use Rattle.thin_film_coating.specs.declared.Coating.TheVariants as C
use Rattle.thin_film.specs.declared.SurfaceCoating.TheVariants as S
use Rattle.thin_film.specs.Coating.{mgf2_default, layers_of, label}

-- a quarter wave at 550 nm of TiO2, 2.30, and of SiO2, 1.46
abbrev pub high : ThinFilmLayer
high = film 0x4002_6666_6666_6666 0x404D_E42C_8590_B217

abbrev pub low : ThinFilmLayer
low = film 0x3FF7_5C28_F5C2_8F5C 0x4057_8B65_B2D9_6CB7

pub record KnownPresetCoatings : Type 0 where
  -- mgf2_default: a quarter wave of 1.38 at 550 nm
  pub mgf2 : layers_of mgf2_default [] ≡ film 0x3FF6_147A_E147_AE14 0x4058_E8CF_C4A3_3F13 ∷ []
  -- and at 1,064 nm
  pub infrared : layers_of (S.MgF2 (of_bits binary64 0x4090_A000_0000_0000)) [] ≡ film 0x3FF6_147A_E147_AE14 0x4068_181D_AE60_76BA ∷ []
  -- HighReflectanceMirror: (H L)^7 H
  pub mirror : layers_of S.HighReflectanceMirror [] ≡
      high ∷ low ∷ high ∷ low ∷ high ∷ low ∷ high ∷ low ∷ high ∷ low ∷ high ∷ low ∷ high ∷ low ∷ high ∷ []
  -- "Ideal AR", "MgF2 (λ/4)", "BBAR (Multi)", "Mirror (99.9%)" and "Custom Stack"
  pub ideal_label : label S.IdealAr ≡ 73 ∷ 100 ∷ 101 ∷ 97 ∷ 108 ∷ 32 ∷ 65 ∷ 82 ∷ []
  pub mgf2_label : label mgf2_default ≡ 77 ∷ 103 ∷ 70 ∷ 50 ∷ 32 ∷ 40 ∷ 206 ∷ 187 ∷ 47 ∷ 52 ∷ 41 ∷ []
  pub broadband_label : label S.BroadbandAr ≡ 66 ∷ 66 ∷ 65 ∷ 82 ∷ 32 ∷ 40 ∷ 77 ∷ 117 ∷ 108 ∷ 116 ∷ 105 ∷ 41 ∷ []
  pub mirror_label : label S.HighReflectanceMirror ≡ 77 ∷ 105 ∷ 114 ∷ 114 ∷ 111 ∷ 114 ∷ 32 ∷ 40 ∷ 57 ∷ 57 ∷ 46 ∷ 57 ∷ 37 ∷ 41 ∷ []
  pub custom_label : label (S.Custom C.Multilayer) ≡ 67 ∷ 117 ∷ 115 ∷ 116 ∷ 111 ∷ 109 ∷ 32 ∷ 83 ∷ 116 ∷ 97 ∷ 99 ∷ 107 ∷ []
