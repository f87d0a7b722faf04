-- What passes the limits and what does not: surfaces of every coating at a wavelength of 1,000, each limit of 01 section 3 from both
-- sides, and metal films from both sides (02 slip 12); and the coatings by their codes. Types only; `proofs/Known.antt` computes them.
use Rattle.std.specs.Prelude.{◌≡◌, Bool, true, false, List, [], ◌∷◌, ℕ, Float, None, Some}
use Rattle.std.specs.Float.{binary64}
use Rattle.std.specs.Float.Ieee.{of_bits}
use Rattle.thin_film_solver.specs.declared.ThinFilmLayer.{ThinFilmLayer}
use Rattle.thin_film_coating.specs.declared.Coating.TheVariants as C
use Rattle.thin_film.specs.declared.SurfaceCoating.TheVariants as S
use Rattle.gate_limits.specs.declared.Surface.{Surface}
use Rattle.gate_limits.specs.Coating.{coded, interface}
use Rattle.gate_limits.specs.Limits.{beam_passes, layer_within, surface_passes, metal_passes, passes}

-- a layer by the patterns of n, k and thickness
abbrev pub film : ℕ → ℕ → ℕ → ThinFilmLayer
film n k thickness = record { n = of_bits binary64 n; k = of_bits binary64 k; thickness_nm = of_bits binary64 thickness }

-- 1,000
abbrev pub wavelength : Float
wavelength = of_bits binary64 0x408F_4000_0000_0000

-- a surface of a coating between two indices, at an angle
abbrev pub between : Bool → ℕ → ℕ → ℕ → ℕ → Surface
between reflected coating n_incident n_substrate angle =
    record {
      reflected = reflected;
      coating = coating;
      n_incident = of_bits binary64 n_incident;
      n_substrate = of_bits binary64 n_substrate;
      angle_rad = of_bits binary64 angle;
    }

-- from 1 to 1.5
abbrev pub pane : Bool → ℕ → ℕ → Surface
pane reflected coating angle = between reflected coating 0x3FF0_0000_0000_0000 0x3FF8_0000_0000_0000 angle

-- ---- every coating
-- at an angle of 0.5, with layers
abbrev pub tilted : Bool → ℕ → List ThinFilmLayer → Bool
tilted reflected coating layers = passes wavelength (pane reflected coating 0x3FE0_0000_0000_0000) layers

-- n 2, k 0, 64 nm
abbrev pub coat : ThinFilmLayer
coat = film 0x4000_0000_0000_0000 0 0x4050_0000_0000_0000

pub record KnownCoatings : Type 0 where
  pub bare : (reflected : Bool) → tilted reflected 0 [] ≡ true
  pub ideal_ar : (reflected : Bool) → tilted reflected 1 [] ≡ true
  pub mgf2 : (reflected : Bool) → tilted reflected 2 [] ≡ true
  pub broadband_ar : (reflected : Bool) → tilted reflected 3 [] ≡ true
  pub high_reflectance_mirror : (reflected : Bool) → tilted reflected 4 [] ≡ true
  pub custom : (reflected : Bool) → tilted reflected 5 (coat ∷ []) ≡ true
  pub ideal_beamsplitter : (reflected : Bool) → tilted reflected 6 [] ≡ true
  pub ideal_mirror : (reflected : Bool) → tilted reflected 7 [] ≡ true

-- ---- a coating by its code
pub record KnownCodes : Type 0 where
  pub bare : (design : Float) → coded 0 design ≡ None
  pub ideal_ar : (design : Float) → coded 1 design ≡ Some S.IdealAr
  pub mgf2 : (design : Float) → coded 2 design ≡ Some (S.MgF2 design)
  pub broadband_ar : (design : Float) → coded 3 design ≡ Some S.BroadbandAr
  pub high_reflectance_mirror : (design : Float) → coded 4 design ≡ Some S.HighReflectanceMirror
  pub custom : (design : Float) → coded 5 design ≡ Some (S.Custom C.Multilayer)
  pub ideal_beamsplitter : (design : Float) → coded 6 design ≡ Some (S.Custom C.IdealBeamsplitter)
  pub ideal_mirror : (design : Float) → coded 7 design ≡ Some (S.Custom C.IdealMirror)
  -- 'MgF2 at 550'
  pub sheets_mgf2 : interface 2 ≡ Some (S.MgF2 (of_bits binary64 0x4081_3000_0000_0000))

-- ---- each limit: the last f64 within it, and the first beyond
abbrev pub beam : ℕ → ℕ → ℕ → Bool
beam w s p = beam_passes (of_bits binary64 w) (of_bits binary64 s) (of_bits binary64 p)

-- bare
abbrev pub met : ℕ → ℕ → ℕ → Bool
met n_incident n_substrate angle = surface_passes (between false 0 n_incident n_substrate angle)

-- a layer, met head-on
abbrev pub layered : ℕ → ℕ → ℕ → Bool
layered n k thickness = layer_within (of_bits binary64 0) (film n k thickness)

pub record KnownLimits : Type 0 where
  -- wavelength 100 to 10,000
  pub shortest : beam 0x4059_0000_0000_0000 0 0 ≡ true
  pub too_short : beam 0x4058_FFFF_FFFF_FFFF 0 0 ≡ false
  pub longest : beam 0x40C3_8800_0000_0000 0 0 ≡ true
  pub too_long : beam 0x40C3_8800_0000_0001 0 0 ≡ false
  -- s and p power 0 to 1
  pub full : beam 0x407F_4000_0000_0000 0x3FF0_0000_0000_0000 0x3FF0_0000_0000_0000 ≡ true
  pub s_above : beam 0x407F_4000_0000_0000 0x3FF0_0000_0000_0001 0x3FF0_0000_0000_0000 ≡ false
  pub p_above : beam 0x407F_4000_0000_0000 0x3FF0_0000_0000_0000 0x3FF0_0000_0000_0001 ≡ false
  pub s_below : beam 0x407F_4000_0000_0000 0x8000_0000_0000_0001 0 ≡ false
  pub p_below : beam 0x407F_4000_0000_0000 0 0x8000_0000_0000_0001 ≡ false
  -- both indices 1 to 4
  pub indices : met 0x3FF0_0000_0000_0000 0x4010_0000_0000_0000 0 ≡ true
  pub incident_below : met 0x3FEF_FFFF_FFFF_FFFF 0x4010_0000_0000_0000 0 ≡ false
  pub incident_above : met 0x4010_0000_0000_0001 0x4010_0000_0000_0000 0 ≡ false
  pub substrate_below : met 0x3FF0_0000_0000_0000 0x3FEF_FFFF_FFFF_FFFF 0 ≡ false
  pub substrate_above : met 0x3FF0_0000_0000_0000 0x4010_0000_0000_0001 0 ≡ false
  -- cos at least 0.25: that of the first angle is 0.25
  pub slanting : met 0x3FF0_0000_0000_0000 0x3FF8_0000_0000_0000 0x3FF5_1700_E0C1_4B25 ≡ true
  pub too_slanting : met 0x3FF0_0000_0000_0000 0x3FF8_0000_0000_0000 0x3FF5_1700_E0C1_4B26 ≡ false
  -- n_incident·abs(sin) at most 0.875·n_substrate, from 1.5 to 1
  pub refracted : met 0x3FF8_0000_0000_0000 0x3FF0_0000_0000_0000 0x3FE3_EE32_04ED_909E ≡ true
  pub hardly_refracted : met 0x3FF8_0000_0000_0000 0x3FF0_0000_0000_0000 0x3FE3_EE32_04ED_909F ≡ false
  -- an infinite angle, and a NaN
  pub infinite : met 0x3FF0_0000_0000_0000 0x3FF8_0000_0000_0000 0x7FF0_0000_0000_0000 ≡ false
  pub not_a_number : met 0x3FF0_0000_0000_0000 0x3FF8_0000_0000_0000 0x7FF8_0000_0000_0000 ≡ false
  -- a layer: n 1 to 4, k equal to zero, thickness 0 to 100,000
  pub thinnest : layered 0x3FF0_0000_0000_0000 0 0 ≡ true
  pub thickest : layered 0x4010_0000_0000_0000 0x8000_0000_0000_0000 0x40F8_6A00_0000_0000 ≡ true
  pub layer_below : layered 0x3FEF_FFFF_FFFF_FFFF 0 0 ≡ false
  pub layer_above : layered 0x4010_0000_0000_0001 0 0 ≡ false
  pub absorbs : layered 0x3FF0_0000_0000_0000 1 0 ≡ false
  pub thinner : layered 0x3FF0_0000_0000_0000 0 0x8000_0000_0000_0001 ≡ false
  pub thicker : layered 0x3FF0_0000_0000_0000 0 0x40F8_6A00_0000_0001 ≡ false

-- ---- metal films
abbrev pub judged : ℕ → ℕ → List ThinFilmLayer → Bool
judged coating angle layers = metal_passes wavelength (pane false coating angle) layers

-- n 0.25, k 2, 64 nm
abbrev pub thin : ThinFilmLayer
thin = film 0x3FD0_0000_0000_0000 0x4000_0000_0000_0000 0x4050_0000_0000_0000

-- four layers whose sum is 16, and the next f64 above it from the last layer on
abbrev pub first : ThinFilmLayer
first = film 0x3FF0_0000_0000_0000 0x3FC0_0000_0000_0000 0x4063_7400_0000_0000

abbrev pub second : ThinFilmLayer
second = film 0x3FF0_0000_0000_0000 0x401D_0000_0000_0000 0x4066_4800_0000_0000

abbrev pub third : ThinFilmLayer
third = film 0x3FF0_0000_0000_0000 0x400E_0000_0000_0000 0x4051_1000_0000_0000

abbrev pub fourth : ThinFilmLayer
fourth = film 0x3FF0_0000_0000_0000 0x3FFC_0000_0000_0000 0x4081_7A67_8759_4425

pub record KnownMetals : Type 0 where
  -- n 0.0625 and k 8, of a thickness with which the sum is 16; then the next thickness, n and k beyond
  pub ends : judged 5 0 (film 0x3FB0_0000_0000_0000 0x4020_0000_0000_0000 0x4073_E4F5_4B37_0DD0 ∷ []) ≡ true
  pub thicker : judged 5 0 (film 0x3FB0_0000_0000_0000 0x4020_0000_0000_0000 0x4073_E4F5_4B37_0DD1 ∷ []) ≡ false
  pub index_below : judged 5 0 (film 0x3FAF_FFFF_FFFF_FFFF 0x4020_0000_0000_0000 0x4050_0000_0000_0000 ∷ []) ≡ false
  pub k_above : judged 5 0 (film 0x3FB0_0000_0000_0000 0x4020_0000_0000_0001 0x4050_0000_0000_0000 ∷ []) ≡ false
  -- n 4, and the next f64; k -0, and the next f64 below it; 0 and 100,000 nm without k, and the f64 beyond either
  pub highest : judged 5 0 (film 0x4010_0000_0000_0000 0x4000_0000_0000_0000 0x4050_0000_0000_0000 ∷ []) ≡ true
  pub index_above : judged 5 0 (film 0x4010_0000_0000_0001 0x4000_0000_0000_0000 0x4050_0000_0000_0000 ∷ []) ≡ false
  pub no_k : judged 5 0 (film 0x4010_0000_0000_0000 0x8000_0000_0000_0000 0x4050_0000_0000_0000 ∷ []) ≡ true
  pub k_below : judged 5 0 (film 0x4010_0000_0000_0000 0x8000_0000_0000_0001 0x4050_0000_0000_0000 ∷ []) ≡ false
  pub thinnest : judged 5 0 (film 0x4010_0000_0000_0000 0x4000_0000_0000_0000 0 ∷ []) ≡ true
  pub thickness_below : judged 5 0 (film 0x4010_0000_0000_0000 0x4000_0000_0000_0000 0x8000_0000_0000_0001 ∷ []) ≡ false
  pub thickest : judged 5 0 (film 0x4010_0000_0000_0000 0 0x40F8_6A00_0000_0000 ∷ []) ≡ true
  pub thickness_above : judged 5 0 (film 0x4010_0000_0000_0000 0 0x40F8_6A00_0000_0001 ∷ []) ≡ false
  -- angle -0, and the least angle above zero
  pub minus_zero : judged 5 0x8000_0000_0000_0000 (thin ∷ []) ≡ true
  pub beside_zero : judged 5 1 (thin ∷ []) ≡ false
  -- no layers, four and five; another coating
  pub none : judged 5 0 [] ≡ false
  pub four : judged 5 0 (thin ∷ thin ∷ thin ∷ thin ∷ []) ≡ true
  pub five : judged 5 0 (thin ∷ thin ∷ thin ∷ thin ∷ thin ∷ []) ≡ false
  pub coated : judged 6 0 (thin ∷ []) ≡ false
  -- 'in the order of the list'
  pub in_order : judged 5 0 (first ∷ second ∷ third ∷ fourth ∷ []) ≡ true
  pub turned : judged 5 0 (fourth ∷ third ∷ second ∷ first ∷ []) ≡ false
