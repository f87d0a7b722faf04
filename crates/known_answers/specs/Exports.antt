-- What C's calls of a train and of a band return and leave, for numbers that are told apart, and the library's version. Types only;
-- `proofs/Exports.antt` has them.
use Rattle.std.specs.Prelude.{◌≡◌, List, [], ◌∷◌, ℕ, Float}
use Rattle.refusal.specs.Outcome.{answer, refusal}
use Rattle.sheet.specs.Sheet.{Sheet}
use Rattle.sheet_values.specs.Values.{value}
use Rattle.train_steps.specs.declared.State.{State}
use Rattle.c_call.specs.Call.{done, reply}
use Rattle.dihkelu.specs.Train.{called, state, started, moved, run_done}
use Rattle.dihkelu.specs.Edition.{copied, rewritten}
use Rattle.dihkelu.specs.Band.{banded}
use Rattle.dihkelu.specs.Version.{version}

-- 500 nm, s 0.5 and p 0.75, no surfaces
abbrev pub beam : Sheet
beam = record { edition = 1; wavelength = 0x407F_4000_0000_0000; s = 0x3FE0_0000_0000_0000; p = 0x3FE8_0000_0000_0000; surfaces = [] }

pub record KnownExports : Type 0 where
  -- a state: surfaces done, s, p, wavelength
  pub states : (s p wavelength : Float) → state 3 s p wavelength ≡ record { done = 3; s = s; p = p; wavelength_nm = wavelength }
  -- dihkelu_start: the count of surfaces, and the BEAM's s, p and wavelength
  pub start : (lent : State) → started (answer beam) lent ≡
      called 0 (state 0 (value 0x3FE0_0000_0000_0000) (value 0x3FE8_0000_0000_0000) (value 0x407F_4000_0000_0000))
  -- dihkelu_step, dihkelu_retune: the surfaces done, and the next state; a refusal leaves the one that was lent
  pub step : (s p wavelength : Float) (lent : State) → moved (answer (state 3 s p wavelength)) lent ≡ called 3 (state 3 s p wavelength)
  pub refused : (lent : State) → moved (refusal 7 2) lent ≡ called 0x7_0000_0002 lent
  -- dihkelu_run: the count, and the list
  pub run : (list : List Float) → run_done (record { result = answer 5; list = list }) ≡ done 5 list
  -- dihkelu_edition_1: the length, and the output
  pub edition_1 : (output : List ℕ) → rewritten (record { result = answer 36; output = output }) ≡ copied 36 output
  -- dihkelu_band: the lines are returned, s and p written
  pub band : (s p : Float) → banded (record { lines = 4; s = s; p = p }) ≡ reply 4 (s ∷ p ∷ [])
  -- dihkelu_version: 0.4
  pub version_0_4 : version ≡ 4
