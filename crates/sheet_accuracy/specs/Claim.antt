-- How near to the physics: an admitted sheet's R and T of every bare surface, and s and p of a train of them, beside exact optics.
-- Types only; proofs/Claim.antt inhabits `Accuracy`. Each f64 is a count of 2 ^ -1074, and the fractions are multiplied out.
-- What is exact is named by fractions as near to it as one likes (`Optics`), so what is within a bound of all of them is within it of that.
use Rattle.std.specs.Prelude.{◌≡◌, cond, List, [], ◌∷◌, ℕ, ◌+◌, ◌*◌, ◌/◌, ◌^◌, ◌<◌, T, length, take, Float}
use Rattle.std.specs.Float.Ieee.{eq, le}
use Rattle.ieee.specs.Functions.{zero_f, abs}
use Rattle.ieee.specs.Count.{count}
use Rattle.near_abs.specs.Off.{Within}
use Rattle.math_trig.specs.Angles.{turns_limit}
use Rattle.refusal.specs.Outcome.{answer}
use Rattle.fresnel_tilted.specs.Claim.{first, second, whole, reflected, transmitted, bound, Power}
use Rattle.bare_near.specs.Claim.{Optics}
use Rattle.thin_film_conserved.specs.Claim.{Exact}
use Rattle.surface.specs.Answers.{coated_powers}
use Rattle.surface.specs.declared.Powers.{Powers}
use Rattle.surface.specs.declared.Answers.{Answers}
use Rattle.sheet.specs.Blocks.{All}
use Rattle.sheet.specs.Sheet.{SheetSurface, nth, Sheet}
use Rattle.sheet.specs.Claim.{Bytes}
use Rattle.sheet_values.specs.Values.{value, surface_value}
use Rattle.gate.specs.Gate.{gated}
use Rattle.sheet_surfaces.specs.Surfaces.{surface_answers}
use Rattle.train_steps.specs.declared.State.{State}
use Rattle.train_steps.specs.Train.{fresh}
use Rattle.train_claim.specs.Claim.{Action, acts}

-- ---- coating 0, with an angle up to 2^20 in size
pub record Plain (y : SheetSurface) : Type 0 where
  pub coating : y.payload / 2 ≡ 0
  pub angle : T (le (abs (value y.angle)) turns_limit)

-- such a surface and its exact optics: the cosine of its angle and that of the refracted light
pub record Bare (y : SheetSurface) : Type 0 where
  pub plain : Plain y
  pub exact : Optics (value y.angle) (value y.n_incident) (value y.n_substrate)

-- Fresnel's a and b: of s n1·cos_i and n2·cos_t, of p n2·cos_i and n1·cos_t
abbrev pub s_first : (y : SheetSurface) → Bare y → ℕ
s_first y h = first (value y.n_incident) h.exact.C h.exact.L

abbrev pub s_second : (y : SheetSurface) → Bare y → ℕ
s_second y h = second (value y.n_substrate) h.exact.t h.exact.K

abbrev pub p_first : (y : SheetSurface) → Bare y → ℕ
p_first y h = first (value y.n_substrate) h.exact.C h.exact.L

abbrev pub p_second : (y : SheetSurface) → Bare y → ℕ
p_second y h = second (value y.n_incident) h.exact.t h.exact.K

-- R and T beside the exact ones
pub record Tilts (a b : ℕ) (reflectance transmittance : Float) : Type 0 where
  pub reflects : Power (reflected a b) (whole a b) reflectance
  pub transmits : Power (transmitted a b) (whole a b) transmittance

-- ---- one surface: each power is within 2 ^ -45 of the exact one
pub record ExactPowers (y : SheetSurface) (h : Bare y) (r : Powers) : Type 0 where
  pub s : Tilts (s_first y h) (s_second y h) r.reflectance_s r.transmittance_s
  pub p : Tilts (p_first y h) (p_second y h) r.reflectance_p r.transmittance_p

pub record BareAnswers (src : List ℕ) (i : ℕ) (y : SheetSurface) (h : Bare y) : Type 0 where
  pub answers : Answers
  pub is : surface_answers src i ≡ answer answers
  pub powers : ExactPowers y h answers.powers

-- ---- coating 5 without LAYERs, met head-on: R and T of its response are off by 12·2 ^ -53 of the exact fractions at most (slip 13)
pub record CustomAnswers (src : List ℕ) (i : ℕ) (y : SheetSurface) : Type 0 where
  pub answers : Answers
  pub is : surface_answers src i ≡ answer answers
  pub exact : Exact (value y.n_incident) (value y.n_substrate) answers.response
  pub powers : answers.powers ≡ coated_powers answers.response

-- ---- a train: of each surface the reflected or the transmitted part, as its lowest payload bit says
abbrev pub part : SheetSurface → ℕ → ℕ → ℕ
part y a b = cond (surface_value y).reflected (reflected a b) (transmitted a b)

abbrev pub s_part : (y : SheetSurface) → Bare y → ℕ
s_part y h = part y (s_first y h) (s_second y h)

abbrev pub p_part : (y : SheetSurface) → Bare y → ℕ
p_part y h = part y (p_first y h) (p_second y h)

-- and the whole that it is part of
abbrev pub s_whole : (y : SheetSurface) → Bare y → ℕ
s_whole y h = whole (s_first y h) (s_second y h)

abbrev pub p_whole : (y : SheetSurface) → Bare y → ℕ
p_whole y h = whole (p_first y h) (p_second y h)

-- over the surfaces taken
abbrev pub product : ((y : SheetSurface) → Bare y → ℕ) → (ys : List SheetSurface) → All Bare ys → ℕ
product f [] h = 1
product f (y ∷ ys) h = f y h.0 * product f ys h.1

-- for each surface the bound of its powers, and one rounding
abbrev pub each : ℕ
each = bound + 2 ^ 1021

-- x is within i times that of the power x0 times A / B
pub record Passed (i A B : ℕ) (x0 x : Float) : Type 0 where
  pub base : 0 < B
  pub near : Within (i * each * B) (count x * B) (count x0 * A)

-- s and p after i surfaces, beside the BEAM's times the exact product
pub record ExactTrain (x : Sheet) (st : State) (h : All Bare (take st.done x.surfaces)) : Type 0 where
  pub s : let ys = take st.done x.surfaces in Passed st.done (product s_part ys h) (product s_whole ys h) (value x.s) st.s
  pub p : let ys = take st.done x.surfaces in Passed st.done (product p_part ys h) (product p_whole ys h) (value x.p) st.p

pub record OfSheet (src : List ℕ) (x : Sheet) : Type 0 where
  -- every such surface has its exact optics, and so have all of a train, so that the following is of each of them
  pub exists : (i : ℕ) → i < length x.surfaces → Plain (nth x.surfaces i) → Bare (nth x.surfaces i)
  pub all_exist : (n : ℕ) → All Plain (take n x.surfaces) → All Bare (take n x.surfaces)
  -- every bare surface
  pub surface : (i : ℕ) → i < length x.surfaces → (h : Bare (nth x.surfaces i)) → BareAnswers src i (nth x.surfaces i) h
  -- every custom one without layers, at an angle of +0 or -0
  pub custom : (i : ℕ) → i < length x.surfaces → let y = nth x.surfaces i in
      y.payload / 2 ≡ 5 → y.layers ≡ [] → T (eq (value y.angle) zero_f) → CustomAnswers src i y
  -- after any list of steps and retunes, where the surfaces done are bare
  pub train : (actions : List Action) → let st = acts src actions (fresh x) in
      (h : All Bare (take st.done x.surfaces)) → ExactTrain x st h

abbrev pub Accuracy : Type 0
Accuracy = (src : List ℕ) → Bytes src → (x : Sheet) → gated src ≡ answer x → OfSheet src x
