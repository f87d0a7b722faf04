-- 01 section 1: the values of blocks whose floats are told apart. 02 slip 3: indices of kind 6 that were worked out apart. Types only;
-- `proofs/Known.antt` computes them.
use Rattle.std.specs.Prelude.{◌≡◌, true, false, [], ℕ}
use Rattle.sheet.specs.Sheet.{SheetSurface, Sheet, layer, keeps, tunes}
use Rattle.sheet_values.specs.Values.{value, beam_value, film, surface_value, met_with, cauchy_value, cauchy_index}

-- 1, 1.5 and 0.5 by their patterns
abbrev pub n_incident : ℕ
n_incident = 0x3FF0_0000_0000_0000

abbrev pub n_substrate : ℕ
n_substrate = 0x3FF8_0000_0000_0000

abbrev pub angle : ℕ
angle = 0x3FE0_0000_0000_0000

-- a SURFACE of a payload
abbrev pub surface : ℕ → SheetSurface
surface payload =
    record { tuning = keeps; payload = payload; n_incident = n_incident; n_substrate = n_substrate; angle = angle; layers = [] }

-- a sheet of edition 1 without surfaces: 500 nm, s 0.5 and p 0.75
abbrev pub beam : Sheet
beam = record { edition = 1; wavelength = 0x407F_4000_0000_0000; s = 0x3FE0_0000_0000_0000; p = 0x3FE8_0000_0000_0000; surfaces = [] }

pub record KnownBlocks : Type 0 where
  -- BEAM: wavelength, s, p
  pub beams : beam_value beam ≡
      record { wavelength_nm = value 0x407F_4000_0000_0000; s = value 0x3FE0_0000_0000_0000; p = value 0x3FE8_0000_0000_0000 }
  -- SURFACE: 'lowest payload bit is 0 to follow the transmitted light, 1 the reflected; payload / 2 is the coating'; n_incident,
  -- n_substrate, angle
  pub transmitted : surface_value (surface 10) ≡
      record {
        reflected = false;
        coating = 5;
        n_incident = value n_incident;
        n_substrate = value n_substrate;
        angle_rad = value angle;
      }
  pub reflected : surface_value (surface 11) ≡
      record {
        reflected = true;
        coating = 5;
        n_incident = value n_incident;
        n_substrate = value n_substrate;
        angle_rad = value angle;
      }
  -- LAYER: n, k, thickness
  pub layers : film (value 0x407F_4000_0000_0000) (layer n_incident angle n_substrate) ≡
      record { n = value n_incident; k = value angle; thickness_nm = value n_substrate }
  -- a kind 7 over what is held
  pub kept : met_with (value n_incident) keeps ≡ value n_incident
  pub tuned : met_with (value n_incident) (tunes n_substrate) ≡ value n_substrate

pub record KnownIndices : Type 0 where
  -- at 500 nm u2 is 0.25, and 1.5 + (0.0625 + 0.015625/u2)/u2 is 2
  pub exact : cauchy_index (value 0x407F_4000_0000_0000)
      (cauchy_value 0x3FF8_0000_0000_0000 0x3FB0_0000_0000_0000 0x3F90_0000_0000_0000 0) ≡ value 0x4000_0000_0000_0000
  -- 1.9495, 0.0057 and 0.0012 at 632.8 nm: u2 rounded otherwise, or the sums in another order, give other bits
  pub in_order : cauchy_index (value 0x4083_C666_6666_6666)
      (cauchy_value 0x3FFF_3126_E978_D4FE 0x3F77_58E2_1965_2BD4 0x3F53_A92A_3055_3261 0) ≡ value 0x3FFF_8A1C_1115_7C93
