-- What is claimed of the answers of a surface within the limits, and of powers that are multiplied. Definitions only;
-- proofs/Finite.antt and proofs/Alone.antt have the proofs.
use Rattle.std.specs.Prelude.{◌≡◌, ℕ, ◌≤◌, ◌<◌, ◌&&◌, List, T, length, Float}
use Rattle.std.specs.Float.{binary64}
use Rattle.std.specs.Float.Ieee.{le, fits}
use Rattle.std.specs.Float.Ieee.Scale.{finite}
use Rattle.ieee.specs.Operators.{◌⊕◌, ◌⊗◌}
use Rattle.ieee.specs.Functions.{zero_f}
use Rattle.thin_film_complex.specs.declared.Complex.{Complex}
use Rattle.refusal.specs.Outcome.{answer}
use Rattle.thin_film_solver.specs.declared.ThinFilmLayer.{ThinFilmLayer}
use Rattle.thin_film_solver.specs.declared.CoatingResponse.{CoatingResponse}
use Rattle.polarization_mueller.specs.declared.JonesMatrix.{JonesMatrix}
use Rattle.polarization_mueller.specs.declared.MuellerMatrix.{MuellerMatrix}
use Rattle.polarization_mueller.specs.Jones as Jones
use Rattle.polarization_mueller.specs.Mueller as Mueller
use Rattle.thin_film_bounds.specs.Solver.{Each}
use Rattle.gate_limits.specs.declared.Surface.{Surface}
use Rattle.surface.specs.declared.Powers.{Powers}
use Rattle.surface.specs.declared.Answers.{Answers}
use Rattle.gate_limits.specs.Limits.{wavelength_passes, power_passes, passes}
use Rattle.surface.specs.Answers.{answers, powers}

-- ---- every number is finite
abbrev pub Finite : Float → Type 0
Finite x = T (finite x)

pub record FiniteComplex (z : Complex) : Type 0 where
  pub re : Finite z.re
  pub im : Finite z.im

pub record FiniteResponse (r : CoatingResponse) : Type 0 where
  pub rs : FiniteComplex r.rs
  pub rp : FiniteComplex r.rp
  pub ts : FiniteComplex r.ts
  pub tp : FiniteComplex r.tp
  pub reflectance_s : Finite r.reflectance_s
  pub reflectance_p : Finite r.reflectance_p
  pub transmittance_s : Finite r.transmittance_s
  pub transmittance_p : Finite r.transmittance_p
  pub phase_rs : Finite r.phase_rs_rad
  pub phase_rp : Finite r.phase_rp_rad
  -- 02 slip 2: 'on an admitted sheet they are finite too'
  pub absorptance_s : Finite r.absorptance_s
  pub absorptance_p : Finite r.absorptance_p

-- an entry that is not there is a NaN, so all four and all sixteen are there
abbrev pub FiniteJones : JonesMatrix → Type 0
FiniteJones j = (i : ℕ) → i < 4 → FiniteComplex (Jones.entry j i)

abbrev pub FiniteMueller : MuellerMatrix → Type 0
FiniteMueller m = (i : ℕ) → i < 16 → Finite (Mueller.entry m i)

-- ---- every power is from 0 to 1, a zero of either sign
pub record UnitPowers (p : Powers) : Type 0 where
  pub reflectance_s : T (power_passes p.reflectance_s)
  pub reflectance_p : T (power_passes p.reflectance_p)
  pub transmittance_s : T (power_passes p.transmittance_s)
  pub transmittance_p : T (power_passes p.transmittance_p)

-- ---- and so is what stays in the glass
pub record UnitAbsorptances (r : CoatingResponse) : Type 0 where
  pub absorptance_s : T (power_passes r.absorptance_s)
  pub absorptance_p : T (power_passes r.absorptance_p)

-- ---- a surface is answered, and with such numbers
pub record Answered (wavelength : Float) (s : Surface) (layers : List ThinFilmLayer) : Type 0 where
  pub value : Answers
  pub is : answers wavelength s layers ≡ answer value
  pub powers : UnitPowers value.powers
  pub response : FiniteResponse value.response
  pub absorptances : UnitAbsorptances value.response
  pub reflection : FiniteJones value.reflection
  pub transmission : FiniteJones value.transmission
  pub reflection_mueller : FiniteMueller value.reflection_mueller
  pub transmission_mueller : FiniteMueller value.transmission_mueller

-- the angle and each k are f64s
pub record Held (s : Surface) (layers : List ThinFilmLayer) : Type 0 where
  pub angle : T (fits binary64 s.angle_rad)
  pub each_k : Each (λ (layer : ThinFilmLayer). T (fits binary64 layer.k)) layers

-- for every wavelength and surface within the limits, the old ones or those of metal films, with 0 to 16 layers
abbrev pub EverySurfaceAnswered : Type 0
EverySurfaceAnswered =
    (wavelength : Float) (s : Surface) (layers : List ThinFilmLayer) → Held s layers → T (wavelength_passes wavelength)
    → T (passes wavelength s layers) → length layers ≤ 16 → Answered wavelength s layers

-- a surface that is answered, within the limits or not, has the same powers alone
abbrev pub PowersAnswered : Type 0
PowersAnswered =
    (wavelength : Float) (s : Surface) (layers : List ThinFilmLayer) (value : Answers) → answers wavelength s layers ≡ answer value
    → powers wavelength s layers ≡ answer value.powers

-- ---- powers that are multiplied: x·y as rounded is at least 0 and at most x, for every f64 x and every y from 0 to 1
abbrev pub ProductFalls : Type 0
ProductFalls = (x y : Float) → T (fits binary64 x) → T (power_passes x) → T (power_passes y) → T (le zero_f (x ⊗ y) && le (x ⊗ y) x)

-- and the rounded sum of two such products is at most the rounded sum
abbrev pub SumFalls : Type 0
SumFalls =
    (x y u v : Float) → T (fits binary64 x) → T (fits binary64 u) → T (power_passes x) → T (power_passes y) → T (power_passes u)
    → T (power_passes v) → T (le (x ⊗ y ⊕ u ⊗ v) (x ⊕ u))
