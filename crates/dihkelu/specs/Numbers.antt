-- What the number that a call returns tells (include/dihkelu.h): its high 32 bits are 0 where the call answers, else the refusal's number.
-- Definitions only; proofs/Numbers.antt has the proof.
use Rattle.std.specs.Prelude.{◌≡◌, cond, List, [], ◌∷◌, ℕ, ◌/◌, ◌%◌, ◌^◌, ◌<◌, T, leb, length, Float}
use Rattle.std.specs.Float.{binary64}
use Rattle.std.specs.Float.Ieee.{fits}
use Rattle.refusal.specs.Outcome.{Outcome, answer, refusal, map}
use Rattle.sheet.specs.Claim.{Bytes}
use Rattle.gate.specs.Gate.{gated, gate}
use Rattle.train_steps.specs.declared.State.{State}
use Rattle.train_steps.specs.Train.{step, retune, run}
use Rattle.sheet_surfaces.specs.Surfaces.{surface_answers}
use Rattle.sheet_retuned.specs.Retuned.{answers_at}
use Rattle.c_layers.specs.Evaluate.{evaluate}
use Rattle.c_scan.specs.Scan.{evaluate_list, scanned}
use Rattle.c_scan.specs.Argument.{invalid_argument}
use Rattle.thin_film_shorthand.specs.Stack.{stack}
use Rattle.c_stack.specs.Stack.{stacked}
use Rattle.polarization_mueller.specs.declared.JonesMatrix.{JonesMatrix}
use Rattle.polarization_mueller.specs.declared.MuellerMatrix.{MuellerMatrix}
use Rattle.c_mueller.specs.Mueller.{converted}
use Rattle.reflectance_range.specs.Range.{reflectance_range}
use Rattle.c_range.specs.Range.{ranged}
use Rattle.quarter_waves.specs.Waves.{quarter_waves}
use Rattle.c_quarter_waves.specs.Waves.{counted}
use Rattle.c_call.specs.Call.{Reply, returned, answered}
use Rattle.c_call.specs.Layout.{evaluated, surface_answered, rows}
use Rattle.sheet_edition_1.specs.Edition.{to_edition_1}
use Rattle.band.specs.Band.{band}
use Rattle.dihkelu.specs.Train.{started, moved, run_done}
use Rattle.dihkelu.specs.Edition.{rewritten}
use Rattle.dihkelu.specs.Band.{banded}

-- For an answer the high 32 bits are 0 and the low 32 bits the call's own number; for a refusal they are its number, which is not 0, and
-- its place.
-- All are whole numbers, and what is returned is a u64 that equals them, so that nothing is cut off.
abbrev pub Tells : Outcome ℕ → ℕ → Type 0
Tells (answer value) n = (n / 2 ^ 32 ≡ 0) × (n % 2 ^ 32 ≡ value)
Tells (refusal number place) n = (0 < number) × ((n / 2 ^ 32 ≡ number) × (n % 2 ^ 32 ≡ place))

-- what is said where a list is lent: 8 for one that is too short, after all other refusals
abbrev pub said : {A : Type 0} → (A → Reply) → Outcome A → List Float → Outcome ℕ
said layout (answer a) list = cond (leb (length (layout a).numbers) (length list)) (answer (layout a).returned) (refusal 8 0)
said layout (refusal number place) list = refusal number place

-- of dihkelu_quarter_waves, which is lent one number and has no 8
abbrev pub quarter_waves_said : Float → Float → Float → Outcome ℕ
quarter_waves_said n thickness wavelength = map (λ waves. waves.count) (quarter_waves n thickness wavelength)

-- the claim, call by call, for all bytes, numbers and lists
pub record Numbers : Type 0 where
  pub of_gate : (src : List ℕ) → Bytes src → Tells (gate src) (returned (gate src))
  pub of_start : (src : List ℕ) → Bytes src → (lent : State) → Tells (gate src) (started (gated src) lent).returned
  pub of_step : (src : List ℕ) → Bytes src → (st : State) →
      Tells (map (λ next. next.done) (step src st)) (moved (step src st) st).returned
  pub of_retune : (src : List ℕ) → Bytes src → (st : State) → st.done < 2 ^ 32 → (w : Float) →
      Tells (map (λ next. next.done) (retune src st w)) (moved (retune src st w) st).returned
  pub of_run : (src : List ℕ) → Bytes src → (list : List Float) → Tells (run src list).result (run_done (run src list)).returned
  pub of_edition_1 : (src : List ℕ) → Bytes src → (output : List ℕ) →
      Tells (to_edition_1 src output).result (rewritten (to_edition_1 src output)).returned
  pub of_band : (src : List ℕ) → Bytes src → (wavelengths : List Float) (weights : List ℕ) (list : List Float)
      → Tells (said banded (band src wavelengths weights) list) (answered banded (band src wavelengths weights) list).returned
  pub of_answers : (src : List ℕ) → Bytes src → (i : ℕ) (list : List Float) →
      Tells (said surface_answered (surface_answers src i) list) (answered surface_answered (surface_answers src i) list).returned
  pub of_answers_at : (src : List ℕ) → Bytes src → (i : ℕ) (wavelength : Float) (list : List Float) →
      Tells (said surface_answered (answers_at src i wavelength) list)
      (answered surface_answered (answers_at src i wavelength) list).returned
  pub of_evaluate : (code : ℕ) (design n_incident n_substrate angle wavelength : Float) (flat list : List Float)
      → Tells (said evaluated (evaluate code design n_incident n_substrate angle wavelength flat) list)
      (answered evaluated (evaluate code design n_incident n_substrate angle wavelength flat) list).returned
  pub of_evaluate_list : (code : ℕ) (design n_incident n_substrate : Float) (angles wavelengths flat list : List Float)
      → Tells (said scanned (evaluate_list code design n_incident n_substrate angles wavelengths flat) list)
      (answered scanned (evaluate_list code design n_incident n_substrate angles wavelengths flat) list).returned
  pub of_invalid_argument : (n_incident n_substrate angle wavelength : Float)
      → Tells (answer (invalid_argument n_incident n_substrate angle wavelength)) (invalid_argument n_incident n_substrate angle wavelength)
  pub of_stack : (text : List ℕ) (n_h n_l n_m design : Float) (list : List Float)
      → Tells (said stacked (stack text n_h n_l n_m design) list) (answered stacked (stack text n_h n_l n_m design) list).returned
  -- dihkelu_to_mueller and dihkelu_mueller_born_wolf: whatever the conversion
  pub of_mueller : (conversion : JonesMatrix → MuellerMatrix) (numbers list : List Float)
      → Tells (said rows (converted conversion numbers) list) (answered rows (converted conversion numbers) list).returned
  pub of_reflectance_range : (n1-low n1-high n2-low n2-high : Float) (list : List Float)
      → Tells (said ranged (reflectance_range n1-low n1-high n2-low n2-high) list)
      (answered ranged (reflectance_range n1-low n1-high n2-low n2-high) list).returned
  pub of_quarter_waves : (n thickness wavelength : Float) → T (fits binary64 wavelength) → (remainder : Float) →
      Tells (quarter_waves_said n thickness wavelength) (answered counted (quarter_waves n thickness wavelength) (remainder ∷ [])).returned
