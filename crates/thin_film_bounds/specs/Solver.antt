-- 01 section 3's limits and 02 slip 12's as ranges of the solver's arguments, a thickness and a k being of either sign; and what holds of
-- its response.
-- Definitions only; proofs/Solve.antt shows the second of the first.
use Rattle.std.specs.Prelude.{◌≤◌, ◌&&◌, List, [], ◌∷◌, T, length, Float}
use Rattle.std.specs.Float.{binary64}
use Rattle.std.specs.Float.Ieee.{le, fits}
use Rattle.std.specs.Float.Ieee.Scale.{finite}
use Rattle.ieee.specs.Operators.{◌⊗◌}
use Rattle.ieee.specs.Functions.{zero_f, one, seven_eighths, abs}
use Rattle.ieee.specs.Range.{Mag, In}
use Rattle.math_trig.specs.Trig.{sin, cos}
use Rattle.thin_film_solver.specs.declared.ThinFilmLayer.{ThinFilmLayer}
use Rattle.thin_film_solver.specs.declared.CoatingResponse.{CoatingResponse}
use Rattle.thin_film_solver.specs.Layer.{factor}
use Rattle.thin_film_solver.specs.Solve.{evaluate}
use Rattle.thin_film_bounds.specs.Range.{CPow}

-- the light refracts by no more than 0.875 of what the medium n admits; `snell` is n_incident * sin_theta0
abbrev pub Refracts : Float → Float → Type 0
Refracts snell n = T (le (abs snell) (seven_eighths ⊗ n))

-- a lossless layer
pub record AdmittedLayer (snell : Float) (layer : ThinFilmLayer) : Type 0 where
  pub index : In 1 0 4 0 layer.n
  pub lossless : Mag 0 0 layer.k
  pub thickness : Mag 100000 0 layer.thickness_nm
  pub refracts : Refracts snell layer.n

-- an absorbing layer that is met head-on: ((2·π·thickness)/wavelength)·k is at most 16
pub record AbsorbingLayer (wavelength : Float) (layer : ThinFilmLayer) : Type 0 where
  pub index : In 1 4 4 0 layer.n
  pub absorbs : Mag 8 0 layer.k
  pub held : T (fits binary64 layer.k)
  pub thickness : Mag 100000 0 layer.thickness_nm
  pub damped : Mag 16 0 (factor layer.thickness_nm wavelength ⊗ layer.k)

abbrev pub Each : (ThinFilmLayer → Type 0) → List ThinFilmLayer → Type 0
Each P [] = Unit {0}
Each P (layer ∷ layers) = P layer × Each P layers

-- up to 16 lossless layers, or up to 4 absorbing ones
pub data AdmittedLayers (snell wavelength : Float) (layers : List ThinFilmLayer) : Type 0 where
  all_lossless : Each (AdmittedLayer snell) layers → length layers ≤ 16 → AdmittedLayers snell wavelength layers
  all_absorbing : Mag 0 0 snell → Each (AbsorbingLayer wavelength) layers → length layers ≤ 4 → AdmittedLayers snell wavelength layers

pub record AdmittedArguments (n_incident n_substrate angle wavelength : Float) (layers : List ThinFilmLayer) : Type 0 where
  pub incident : In 1 0 4 0 n_incident
  pub substrate : In 1 0 4 0 n_substrate
  pub finite_angle : T (finite angle)
  pub cosine : In 1 2 1 0 (cos angle)
  pub wavelength_in : In 100 0 10000 0 wavelength
  pub refracts : Refracts (n_incident ⊗ sin angle) n_substrate
  pub admitted : AdmittedLayers (n_incident ⊗ sin angle) wavelength layers

-- from 0 to 1, a zero of either sign
abbrev pub FromZeroToOne : Float → Type 0
FromZeroToOne x = T (le zero_f x && le x one)

-- every number of the response is finite, and the powers and what stays in the glass are from 0 to 1
pub record Bounded (r : CoatingResponse) : Type 0 where
  pub rs : CPow 475 r.rs
  pub rp : CPow 475 r.rp
  pub ts : CPow 291 r.ts
  pub tp : CPow 291 r.tp
  pub reflectance_s : In 0 0 1 0 r.reflectance_s
  pub reflectance_p : In 0 0 1 0 r.reflectance_p
  pub transmittance_s : In 0 0 1 0 r.transmittance_s
  pub transmittance_p : In 0 0 1 0 r.transmittance_p
  pub phase_rs : Mag 8 0 r.phase_rs_rad
  pub phase_rp : Mag 8 0 r.phase_rp_rad
  pub absorptance_s : FromZeroToOne r.absorptance_s
  pub absorptance_p : FromZeroToOne r.absorptance_p

abbrev pub EveryResponseBounded : Type 0
EveryResponseBounded =
    (n_incident n_substrate angle wavelength : Float) (layers : List ThinFilmLayer)
    → AdmittedArguments n_incident n_substrate angle wavelength layers → Bounded (evaluate n_incident n_substrate angle wavelength layers)
