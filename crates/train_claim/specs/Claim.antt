-- Demand 3, whole. Types only; `proofs/Claim.antt` inhabits `TrainClaim`.
use Rattle.std.specs.Prelude.{◌≡◌, true, false, ◌&&◌, cond, List, [], ◌∷◌, ◌++◌, map, ℕ, suc, ◌+◌, ◌*◌, ◌≤◌, ◌<◌, min, T, ltb, length, get_or, drop, replicate, Float}
use Rattle.std.specs.Float.Ieee.{le}
use Rattle.ieee.specs.Operators.{◌⊗◌}
use Rattle.ieee.specs.Functions.{zero_f}
use Rattle.refusal.specs.Outcome as Outcome
use Rattle.refusal.specs.Outcome.{Outcome, answer, refusal}
use Rattle.surface.specs.Answers.{answers}
use Rattle.surface.specs.Finite.{Finite, Answered}
use Rattle.sheet.specs.Words.{kind}
use Rattle.sheet.specs.Sheet.{SheetLayer, Tuning, keeps, tunes, SheetSurface, nth, Sheet, WellFormed, layer_block}
use Rattle.sheet.specs.Claim.{Bytes}
use Rattle.sheet_values.specs.Values.{value, film, films, surface_value, met_with, met_at}
use Rattle.sheet_surfaces.specs.Surfaces.{its_answers, nth_surface, nth_layer, surface_answers}
use Rattle.gate.specs.Gate.{old, verdicts_by, gated}
use Rattle.gate.specs.Wavelength.{holds}
use Rattle.gate.specs.Claim.{WithinLimits, GateClaim}
use Rattle.train_steps.specs.declared.State.{State}
use Rattle.train_steps.specs.Train.{chosen_powers, fresh, start, after_one, step, with_wavelength, retune, state_after, run, sum}
use Rattle.sheet_retuned.specs.Retuned.{answers_at}

-- ---- a list of actions, all with one sheet
pub data Action : Type 0 where
  a_step : Action
  a_retune : Float → Action

abbrev pub answer_to : List ℕ → Action → State → Outcome State
answer_to src a_step st = step src st
answer_to src (a_retune wavelength) st = retune src st wavelength

-- the state that an action returns, which is the state as before where it was refused
abbrev pub act : List ℕ → Action → State → State
act src a st = state_after st (answer_to src a st)

abbrev pub acts : List ℕ → List Action → State → State
acts src [] st = st
acts src (a ∷ more) st = acts src more (act src a st)

-- how each of them is answered, without the state
abbrev pub told : List ℕ → List Action → State → List (Outcome Unit)
told src [] st = []
told src (a ∷ more) st = Outcome.map (λ (next : State). tt) (answer_to src a st) ∷ told src more (act src a st)

-- how many of them are steps
abbrev pub count_steps : List Action → ℕ
count_steps [] = 0
count_steps (a_step ∷ more) = suc (count_steps more)
count_steps (a_retune wavelength ∷ more) = count_steps more

abbrev pub steps : ℕ → List Action
steps n = replicate n a_step

-- ---- from the sheet's data and the list alone, no call among them: the wavelengths that the surfaces taken are met with, in sheet order;
-- the one held at the end; and how each action is answered
pub record Course : Type 0 where
  pub met : List Float
  pub held : Float
  pub answers : List (Outcome Unit)

abbrev pub meets : Float → Course → Course
meets w c = record { met = w ∷ c.met; held = c.held; answers = answer tt ∷ c.answers }

abbrev pub is_told : Outcome Unit → Course → Course
is_told o c = record { met = c.met; held = c.held; answers = o ∷ c.answers }

-- from `done` surfaces and a wavelength held on. A step with a surface left meets it with its own kind 7's wavelength or else the one held;
-- with none left it is 7. A retune counts where its wavelength passes on the layers up to the next kind 7; else it is 11
unfoldable pub course : List SheetSurface → Float → ℕ → List Action → Course
course ys held done [] = record { met = []; held = held; answers = [] }
course ys held done (a_step ∷ more) =
    let w = met_with held (nth ys done).tuning in
    cond (ltb done (length ys)) (meets w (course ys w (suc done) more)) (is_told (refusal 7 0) (course ys held done more))
course ys held done (a_retune w ∷ more) =
    cond (holds w (drop done ys)) (is_told (answer tt) (course ys w done more)) (is_told (refusal 11 0) (course ys held done more))

-- ---- section 7's values: the BEAM's powers, multiplied in sheet order by the chosen powers of the surfaces taken, each at the wavelength
-- that it is met with
unfoldable pub product : Float → List Float → Float
product x [] = x
product x (y ∷ ys) = product (x ⊗ y) ys

unfoldable pub chosen_s : List Float → List SheetSurface → List Float
chosen_s [] ys = []
chosen_s (w ∷ ws) [] = []
chosen_s (w ∷ ws) (y ∷ ys) = (chosen_powers w y).s ∷ chosen_s ws ys

unfoldable pub chosen_p : List Float → List SheetSurface → List Float
chosen_p [] ys = []
chosen_p (w ∷ ws) [] = []
chosen_p (w ∷ ws) (y ∷ ys) = (chosen_powers w y).p ∷ chosen_p ws ys

abbrev pub course_of : Sheet → List Action → Course
course_of x actions = course x.surfaces (value x.wavelength) 0 actions

-- surfaces done is the smaller of the number of steps and END's count
unfoldable pub worked_out : Sheet → List Action → State
worked_out x actions =
    let c = course_of x actions in
    record {
      done = min (count_steps actions) (length x.surfaces);
      s = product (value x.s) (chosen_s c.met x.surfaces);
      p = product (value x.p) (chosen_p c.met x.surfaces);
      wavelength_nm = c.held;
    }

-- ---- bounds
-- s and p are at least zero and no larger than they were, and so is their sum; by value, zeros of both signs being equal
pub record Falls (old new : State) : Type 0 where
  pub s : T (le zero_f new.s && le new.s old.s)
  pub p : T (le zero_f new.p && le new.p old.p)
  pub sum : T (le zero_f (sum new.s new.p) && le (sum new.s new.p) (sum old.s old.p))

-- at each action of a list
abbrev pub AllFall : List ℕ → List Action → State → Type 0
AllFall src [] st = Unit
AllFall src (a ∷ more) st = Falls st (act src a st) × AllFall src more (act src a st)

-- ---- the surfaces taken are answered, each at the wavelength that it is met with, and every answer is finite
abbrev pub AllAnswered : List Float → List SheetSurface → Type 0
AllAnswered [] ys = Unit
AllAnswered (w ∷ ws) [] = ⊥
AllAnswered (w ∷ ws) (y ∷ ys) = Answered w (surface_value y) (films w y.layers) × AllAnswered ws ys

-- ---- demand 3 for one admitted sheet, in its own words, with slip 5: 'The theorem then covers every list of steps and retunes from a
-- fresh train, refused ones included'
pub record AdmittedSheet (src : List ℕ) (x : Sheet) : Type 0 where
  pub starts : start src ≡ answer (fresh x)
  -- 'each is handed that sheet and the train that the last one returned. After the list the train holds the surfaces done, s and p that
  -- 01's section 7 works out from the sheet', and the wavelength
  pub lists : (actions : List Action) → acts src actions (fresh x) ≡ worked_out x actions
  pub told : (actions : List Action) → told src actions (fresh x) ≡ (course_of x actions).answers
  -- 'Each step leaves s and p at least zero and no larger than they were, and their sum no larger than it was.'
  pub falls : (actions : List Action) → AllFall src actions (fresh x)
  -- the wavelength held passes wherever a list leads, so that no step of a list is 11
  pub held : (actions : List Action) → let st = acts src actions (fresh x) in
      T (holds st.wavelength_nm (drop st.done x.surfaces))
  -- 'No retune comes into a whole run: it writes what a list of steps alone gives.'
  pub runs : (list : List Float) → 2 * length x.surfaces ≤ length list → (run src list).result ≡ answer (length x.surfaces)
  pub writes_s : (list : List Float) → 2 * length x.surfaces ≤ length list → (d : Float) (i : ℕ) → i < length x.surfaces
      → get_or (run src list).list (2 * i) d ≡ (worked_out x (steps (suc i))).s
  pub writes_p : (list : List Float) → 2 * length x.surfaces ≤ length list → (d : Float) (i : ℕ) → i < length x.surfaces
      → get_or (run src list).list (2 * i + 1) d ≡ (worked_out x (steps (suc i))).p
  -- 'Every power, amplitude, phase, Jones and Mueller entry of that sheet's surfaces' answers under demand 2, as section 7 names them, is
  -- finite.' 'a surface's answers are those at the wavelength it is met with'
  pub answers : (actions : List Action) → AllAnswered (course_of x actions).met x.surfaces
  -- and so are s, p and their sum
  pub finite : (actions : List Action) → let st = worked_out x actions in
      (Finite st.s × Finite st.p) × Finite (sum st.s st.p)

-- ---- what else each call does with an admitted sheet, of any state and any list
pub record EveryCall (src : List ℕ) (x : Sheet) : Type 0 where
  -- a step of any state: 7 where surfaces done is the sheet's count or more, else 11 where the wavelength held fails, else it is taken
  pub seven : (st : State) → length x.surfaces ≤ st.done → step src st ≡ refusal 7 0
  pub eleven : (st : State) → st.done < length x.surfaces → holds st.wavelength_nm (drop st.done x.surfaces) ≡ false →
      step src st ≡ refusal 11 0
  pub taken : (st : State) → st.done < length x.surfaces → holds st.wavelength_nm (drop st.done x.surfaces) ≡ true →
      step src st ≡ answer (after_one st (nth x.surfaces st.done))
  -- a retune of any state
  pub tuned : (st : State) (w : Float) → holds w (drop st.done x.surfaces) ≡ true → retune src st w ≡ answer (with_wavelength w st)
  pub untuned : (st : State) (w : Float) → holds w (drop st.done x.surfaces) ≡ false → retune src st w ≡ refusal 11 0
  -- a whole run leaves the rest of its list; it is refused with 8 where the list is shorter than 2 × surfaces, and the list is as before
  pub leaves : (list : List Float) → 2 * length x.surfaces ≤ length list → (d : Float) (i : ℕ) → 2 * length x.surfaces ≤ i →
      get_or (run src list).list i d ≡ get_or list i d
  pub eight : (list : List Float) → length list < 2 * length x.surfaces → run src list ≡ record { result = refusal 8 0; list = list }
  -- the answers of a surface that the sheet has are that surface's at the wavelength that steps alone meet it with; 7 where it has none
  pub answered : (i : ℕ) → i < length x.surfaces → let y = nth x.surfaces i in
      let w = met_at (value x.wavelength) x.surfaces i in
      surface_answers src i ≡ answers w (surface_value y) (films w y.layers)
  -- which is the one held after the step onto it
  pub met : (i : ℕ) → i < length x.surfaces →
      (worked_out x (steps (suc i))).wavelength_nm ≡ met_at (value x.wavelength) x.surfaces i
  pub no_surface : (i : ℕ) → length x.surfaces ≤ i → surface_answers src i ≡ refusal 7 0
  -- the answers of a surface after a retune made right before it is stepped, whatever the state: 7 where there is no such surface;
  -- else what refuses the retune; else those at the wavelength that the step from there holds, all of them finite
  pub no_surface_at : (i : ℕ) (w : Float) → length x.surfaces ≤ i → answers_at src i w ≡ refusal 7 0
  pub untuned_at : (st : State) (w : Float) → st.done < length x.surfaces → (number place : ℕ) →
      retune src st w ≡ refusal number place → answers_at src st.done w ≡ refusal number place
  pub tuned_at : (st : State) (w : Float) → st.done < length x.surfaces → (next : State) → retune src st w ≡ answer next →
      let y = nth x.surfaces st.done in
      (after : State) × ((step src next ≡ answer after)
      × ((answers_at src st.done w ≡ its_answers after.wavelength_nm y)
      × Answered after.wavelength_nm (surface_value y) (films after.wavelength_nm y.layers)))
  -- a surface by its number, and its layers in sheet order, each at that wavelength; 7 where there is none
  pub surface : (i : ℕ) → i < length x.surfaces → let y = nth x.surfaces i in
      nth_surface src i ≡ answer (record { surface = surface_value y; layers = length y.layers })
  pub layer : (i : ℕ) → i < length x.surfaces → (before : List SheetLayer) (l : SheetLayer) (behind : List SheetLayer) →
      (nth x.surfaces i).layers ≡ before ++ l ∷ behind →
      nth_layer src i (length before) ≡ answer (film (met_at (value x.wavelength) x.surfaces i) l)
  pub no_layer : (i j : ℕ) → i < length x.surfaces → length (nth x.surfaces i).layers ≤ j → nth_layer src i j ≡ refusal 7 0

-- ---- the claim for bytes that the gate refuses: every call has the same refusal and leaves what it was lent
pub record TurnedBack (src : List ℕ) (number place : ℕ) : Type 0 where
  pub starts : start src ≡ refusal number place
  pub steps : (st : State) → step src st ≡ refusal number place
  pub retunes : (st : State) (w : Float) → retune src st w ≡ refusal number place
  pub runs : (list : List Float) → run src list ≡ record { result = refusal number place; list = list }
  pub answered : (i : ℕ) → surface_answers src i ≡ refusal number place
  pub answered_at : (i : ℕ) (w : Float) → answers_at src i w ≡ refusal number place
  pub surface : (i : ℕ) → nth_surface src i ≡ refusal number place
  pub layer : (i j : ℕ) → nth_layer src i j ≡ refusal number place

-- ---- an admitted sheet of an edition that has every payload, a LAYER after one coating 5 and layers of these kinds after the other,
-- before which a kind 7 may stand: no limit refuses every coated surface
abbrev pub kinds_of : SheetSurface → List ℕ
kinds_of y = map (λ (l : SheetLayer). kind (layer_block l).word) y.layers

pub record EveryPayload (edition : ℕ) (kinds : List ℕ) (tuning : Tuning) : Type 0 where
  pub sheet : Sheet
  pub formed : WellFormed sheet
  pub within : WithinLimits sheet
  pub edition_is : sheet.edition ≡ edition
  pub payloads : map (λ (y : SheetSurface). y.payload) sheet.surfaces ≡
      0 ∷ 1 ∷ 2 ∷ 3 ∷ 4 ∷ 5 ∷ 6 ∷ 7 ∷ 8 ∷ 9 ∷ 10 ∷ 11 ∷ 12 ∷ 13 ∷ 14 ∷ 15 ∷ []
  pub layers : map kinds_of sheet.surfaces ≡
      [] ∷ [] ∷ [] ∷ [] ∷ [] ∷ [] ∷ [] ∷ [] ∷ [] ∷ [] ∷ (4 ∷ []) ∷ kinds ∷ [] ∷ [] ∷ [] ∷ [] ∷ []
  pub tunings : map (λ (y : SheetSurface). y.tuning) sheet.surfaces ≡ replicate 11 keeps ++ (tuning ∷ replicate 4 keeps)

-- ---- an admitted sheet with a metal film, the LAYER of whose only SURFACE is outside section 3's limits
pub record MetalFilm : Type 0 where
  pub sheet : Sheet
  pub formed : WellFormed sheet
  pub within : WithinLimits sheet
  pub layers : map kinds_of sheet.surfaces ≡ (4 ∷ []) ∷ []
  pub outside : get_or (verdicts_by old sheet) 3 true ≡ false

-- ---- demand 3
pub record TrainClaim : Type 0 where
  -- 'For any bytes, the gate admits them as a sheet exactly when they meet 01's grammar and limits.'
  pub gate : GateClaim
  pub admitted : (src : List ℕ) → Bytes src → (x : Sheet) → gated src ≡ answer x → AdmittedSheet src x
  pub every_call : (src : List ℕ) → Bytes src → (x : Sheet) → gated src ≡ answer x → EveryCall src x
  pub turned_back : (src : List ℕ) (number place : ℕ) → gated src ≡ refusal number place → TurnedBack src number place
  -- of edition 1 with 16 LAYERs; of edition 2 with 15 and a kind 6 among them, after a kind 7 of 1,024 nm
  pub one : EveryPayload 1 (replicate 16 4) keeps
  pub two : EveryPayload 2 (4 ∷ 6 ∷ replicate 14 4) (tunes 0x4090_0000_0000_0000)
  pub metal : MetalFilm
