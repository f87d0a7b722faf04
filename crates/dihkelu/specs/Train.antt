-- What dihkelu_start, dihkelu_step, dihkelu_retune and dihkelu_run return and leave, over document 01's train and 02 slip 5.
-- Definitions only.
use Rattle.std.specs.Prelude.{ℕ, Float}
use Rattle.refusal.specs.Outcome.{Outcome, answer, refusal}
use Rattle.sheet.specs.Sheet.{Sheet}
use Rattle.sheet.specs.Read.{surfaces_of}
use Rattle.train_steps.specs.declared.State.{State}
use Rattle.train_steps.specs.Train.{fresh, Ran}
use Rattle.c_call.specs.Call.{Done, done, packed, returned}

-- the number that a call returns, and the state that it leaves
pub record Called : Type 0 where
  pub returned : ℕ
  pub left : State

abbrev pub called : ℕ → State → Called
called returned left = record { returned = returned; left = left }

-- a state by its numbers
abbrev pub state : ℕ → Float → Float → Float → State
state done s p wavelength = record { done = done; s = s; p = p; wavelength_nm = wavelength }

-- 'a refusal leaves it untouched'
abbrev pub went : {A : Type 0} → (A → ℕ) → (A → State) → Outcome A → State → Called
went number next (answer a) lent = called (number a) (next a)
went number next (refusal number' place) lent = called (packed number' place) lent

-- dihkelu_start: the count of surfaces, and a fresh train
abbrev pub started : Outcome Sheet → State → Called
started o lent = went surfaces_of fresh o lent

-- dihkelu_step, dihkelu_retune: the surfaces done, and the next state
abbrev pub moved : Outcome State → State → Called
moved o lent = went (λ st. st.done) (λ st. st) o lent

-- dihkelu_run: the count of surfaces, and the list as the run leaves it
abbrev pub run_done : Ran → Done
run_done r = done (returned r.result) r.list
