-- 01 section 7 and 02 slip 5: the train. Definitions only.
use Rattle.std.specs.Prelude.{Bool, cond, List, [], ◌∷◌, ◌++◌, ℕ, ◌+◌, ◌*◌, leb, ltb, length, drop, Float}
use Rattle.std.specs.Float.{nan}
use Rattle.ieee.specs.Operators.{◌⊗◌, ◌⊕◌}
use Rattle.refusal.specs.Outcome.{Outcome, answer, refusal, map, bind}
use Rattle.surface.specs.declared.Powers.{Powers}
use Rattle.surface.specs.declared.Answers.{Answers}
use Rattle.surface.specs.Answers.{answers}
use Rattle.sheet.specs.Sheet.{SheetSurface, nth, Sheet}
use Rattle.sheet_values.specs.Values.{value, films, surface_value, met_with}
use Rattle.gate.specs.Gate.{gated}
use Rattle.gate.specs.Wavelength.{holds}
use Rattle.train_steps.specs.declared.Chosen.{Chosen}
use Rattle.train_steps.specs.declared.State.{State}

-- ---- a surface
-- the R_s or T_s and the R_p or T_p of its answers, as chosen by the lowest payload bit
abbrev pub chosen : Bool → Powers → Chosen
chosen reflected r =
    record {
      s = cond reflected r.reflectance_s r.transmittance_s;
      p = cond reflected r.reflectance_p r.transmittance_p;
    }

-- NaN where a surface has no answers, which no surface within the limits is without (crate `train_claim`)
abbrev pub chosen_of : Bool → Outcome Powers → Chosen
chosen_of reflected (answer r) = chosen reflected r
chosen_of reflected (refusal number place) = record { s = nan; p = nan }

unfoldable pub chosen_powers : Float → SheetSurface → Chosen
chosen_powers wavelength y =
    chosen_of (surface_value y).reflected
    (map (λ (a : Answers). a.powers) (answers wavelength (surface_value y) (films wavelength y.layers)))

-- ---- Start: 0 and the BEAM's powers; 'Start now holds the BEAM's wavelength too'; a train in that state is fresh
abbrev pub fresh : Sheet → State
fresh x = record { done = 0; s = value x.s; p = value x.p; wavelength_nm = value x.wavelength }

unfoldable pub start : List ℕ → Outcome State
start src = map fresh (gated src)

-- Sum is s + p
abbrev pub sum : Float → Float → Float
sum s p = s ⊕ p

-- ---- a step takes the surface after those done: it multiplies s and p by its chosen powers at the wavelength that it is met with, which
-- is then held, and adds one to the surfaces done
unfoldable pub after_one : State → SheetSurface → State
after_one st y =
    let w = met_with st.wavelength_nm y.tuning in
    let c = chosen_powers w y in
    record { done = st.done + 1; s = st.s ⊗ c.s; p = st.p ⊗ c.p; wavelength_nm = w }

-- 7 when surfaces done is the sheet's count or more; 'A step from a state that holds such a wavelength is 11 too, after 7'
abbrev pub stepped : State → Sheet → Outcome State
stepped st x =
    cond (ltb st.done (length x.surfaces))
    (cond (holds st.wavelength_nm (drop st.done x.surfaces))
    (answer (after_one st (nth x.surfaces st.done)))
    (refusal 11 0))
    (refusal 7 0)

-- it gates the sheet anew
unfoldable pub step : List ℕ → State → Outcome State
step src st = bind (gated src) (stepped st)

-- ---- a retune: 'It counts for surfaces not yet stepped, and those done keep their powers'; 11 'after 4, 5 and 6'
abbrev pub with_wavelength : Float → State → State
with_wavelength wavelength st = record { done = st.done; s = st.s; p = st.p; wavelength_nm = wavelength }

abbrev pub retuned : Float → State → Sheet → Outcome State
retuned wavelength st x = cond (holds wavelength (drop st.done x.surfaces)) (answer (with_wavelength wavelength st)) (refusal 11 0)

unfoldable pub retune : List ℕ → State → Float → Outcome State
retune src st wavelength = bind (gated src) (retuned wavelength st)

-- the state that a call returns, which is the state as before where it was refused
abbrev pub state_after : State → Outcome State → State
state_after st (answer next) = next
state_after st (refusal number place) = st

-- ---- a whole run: s, p after each surface, as one step after another gives them
unfoldable pub after_each : State → List SheetSurface → List Float
after_each st [] = []
after_each st (y ∷ ys) = let next = after_one st y in next.s ∷ next.p ∷ after_each next ys

-- the count of surfaces or a refusal, and the lent list
pub record Ran : Type 0 where
  pub result : Outcome ℕ
  pub list : List Float

-- 8 when the list is shorter than 2 × surfaces; the rest of a longer list is untouched
abbrev pub ran : List Float → Outcome Sheet → Ran
ran list (answer x) =
    let n = length x.surfaces in
    cond (leb (2 * n) (length list))
    (record { result = answer n; list = after_each (fresh x) x.surfaces ++ drop (2 * n) list })
    (record { result = refusal 8 0; list = list })
ran list (refusal number place) = record { result = refusal number place; list = list }

unfoldable pub run : List ℕ → List Float → Ran
run src list = ran list (gated src)
