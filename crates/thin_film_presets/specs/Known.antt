-- The layers of presets, worked out apart. Types only; `proofs/Known.antt` computes them.
use Rattle.std.specs.Prelude.{◌≡◌, [], ◌∷◌, ℕ}
use Rattle.std.specs.Float.{binary64}
use Rattle.std.specs.Float.Ieee.{of_bits}
use Rattle.thin_film_solver.specs.declared.ThinFilmLayer.{ThinFilmLayer}
use Rattle.thin_film_presets.specs.Layers.{bragg_layers, broadband_layers}

-- a layer by the bits of n and of its thickness; k is +0
abbrev pub film : ℕ → ℕ → ThinFilmLayer
film n thickness = record { n = of_bits binary64 n; k = of_bits binary64 0; thickness_nm = of_bits binary64 thickness }

pub record KnownPresets : Type 0 where
  -- SiO2 is 1.46 and TiO2 2.30: 88, 112, 32 and 15 nm
  pub broadband : broadband_layers ≡
      film 0x3FF7_5C28_F5C2_8F5C 0x4056_0000_0000_0000 ∷ film 0x4002_6666_6666_6666 0x405C_0000_0000_0000
      ∷ film 0x3FF7_5C28_F5C2_8F5C 0x4040_0000_0000_0000 ∷ film 0x4002_6666_6666_6666 0x402E_0000_0000_0000 ∷ []
  -- one pair of them at 550 nm, H L H: design / (4 n) is a quotient, and 550 times 1 / (4 · 1.46) is an ulp less
  pub bragg : bragg_layers (of_bits binary64 0x4002_6666_6666_6666) (of_bits binary64 0x3FF7_5C28_F5C2_8F5C) 1
      (of_bits binary64 0x4081_3000_0000_0000) ≡
      film 0x4002_6666_6666_6666 0x404D_E42C_8590_B217 ∷ film 0x3FF7_5C28_F5C2_8F5C 0x4057_8B65_B2D9_6CB7
      ∷ film 0x4002_6666_6666_6666 0x404D_E42C_8590_B217 ∷ []
