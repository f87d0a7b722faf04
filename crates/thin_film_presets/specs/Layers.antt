-- The layers of the coatings of thin_film.rs that have layers of their own. Definitions only.
use Rattle.std.specs.Prelude.{ℕ, zero, suc, List, [], ◌∷◌, ◌≡◌, false, Float}
use Rattle.std.specs.Float.{binary64}
use Rattle.std.specs.Float.Ieee.{of_bits, round}
use Rattle.ieee.specs.Functions.{four}
use Rattle.ieee.specs.Operators.{◌⊗◌, ◌⊘◌}
use Rattle.thin_film_solver.specs.declared.ThinFilmLayer.{ThinFilmLayer}
use Rattle.thin_film_solver.specs.Solve.{dielectric}

-- ---- indices
-- 1.46
abbrev pub n_sio2 : Float
n_sio2 = of_bits binary64 0x3FF7_5C28_F5C2_8F5C

-- 2.30
abbrev pub n_tio2 : Float
n_tio2 = of_bits binary64 0x4002_6666_6666_6666

-- each is the double nearest to its decimal; proofs/Decimals.antt has the proof
abbrev decimal : ℕ → ℕ → Float
decimal n d = round binary64 false n d

pub record Decimals : Type 0 where
  pub sio2 : n_sio2 ≡ decimal 146 100
  pub tio2 : n_tio2 ≡ decimal 230 100

-- ---- layers
-- design_wavelength_nm / (4.0 * n)
abbrev pub quarter_wave : Float → Float → Float
quarter_wave design n = design ⊘ (four ⊗ n)

-- bragg_mirror: (H L)^pairs H
unfoldable pub bragg_layers : Float → Float → ℕ → Float → List ThinFilmLayer
bragg_layers n_high n_low zero design = dielectric n_high (quarter_wave design n_high) ∷ []
bragg_layers n_high n_low (suc pairs) design =
    dielectric n_high (quarter_wave design n_high) ∷ dielectric n_low (quarter_wave design n_low) ∷ bragg_layers n_high n_low pairs design

-- to_coating, BroadbandAr: SiO2 88, TiO2 112, SiO2 32, TiO2 15
unfoldable pub broadband_layers : List ThinFilmLayer
broadband_layers =
    dielectric n_sio2 (of_bits binary64 0x4056_0000_0000_0000)
    ∷ dielectric n_tio2 (of_bits binary64 0x405C_0000_0000_0000)
    ∷ dielectric n_sio2 (of_bits binary64 0x4040_0000_0000_0000)
    ∷ dielectric n_tio2 (of_bits binary64 0x402E_0000_0000_0000)
    ∷ []
