-- `train_steps::run_at` meets its contract. Assumes nothing.
use mathlib.Core.Path.{◌≡◌}
use mathlib.Core.List.{List}
use Prim.Native.Nat.{ℕ, ◌-◌}
use lib.Ieee.{Float}
use Rattle.train_steps.specs.declared.State.{State}
use Rattle.train_steps.specs.Internal.{moved_on, run_at}
use Rattle.train_steps.proofs.run_at.Given as goal

-- so many surfaces are done, and those left lead to the same state
pub record Left (src : List ℕ) (n : ℕ) (w : Float) (st : State) (at i : ℕ) : Type 0 where
  pub counts : st.done ≡ i
  pub leads : moved_on (n - i) src at st ≡ run_at src n w

abbrev pub invariant-loop : goal.invariant-loop
invariant-loop l = Left l.src l.count l.wavelength_nm l.state l.begin l.counter
